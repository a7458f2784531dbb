-- Free chargers: what sums and rounds pass over.
use mathlib.Core.Path.{◌≡◌, refl}
use mathlib.Core.Bool.{Bool, true, false, ◌&&◌}
use mathlib.Core.List.{List, [], ◌∷◌, ◌++◌}
use Prim.Native.Nat.{ℕ, zero, suc, ◌+◌}
use native.Mathlib.Nat.{add-zero}
use native.Mathlib.Omega.{arith}
use lib.Ieee.{Float}
use Rattle.curve.specs.declared.points.Point.{Point}
use Rattle.power.specs.declared.charger_state.ChargerState.{ChargerState}
use Rattle.power.specs.declared.power.Limit.{Limit}
use Rattle.power.specs.ChargerState.{is_free, draw, all_free}
use Rattle.power.specs.Power.{added, total}
use Rattle.power.specs.Code.Rounds.{or_finished, any_finished, spin}
use Rattle.power.proofs.charger_state.Vacant.{free_unfinished, free_adds, and_left, and_right, free_charge}

pub total-append : (sum : Float) (ss xs : List ChargerState) → total sum (ss ++ xs) ≡ total (total sum ss) xs
total-append sum [] xs = refl
total-append sum (s ∷ ss) xs = total-append (added sum s) ss xs

pub total_free : (z : Float) (ss : List ChargerState) → all_free ss ≡ true → total z ss ≡ z
unfolding added
total_free z [] h = refl
total_free z (s ∷ ss) h =
    rw (free_adds z (draw s) s.status (and_left (is_free s.status) (all_free ss) h)) (total_free z ss (and_right (is_free s.status) (all_free ss) h))

pub all_free-append : (ss xs : List ChargerState) → all_free (ss ++ xs) ≡ (all_free ss && all_free xs)
all_free-append [] xs = refl
all_free-append (s ∷ ss) xs = go (is_free s.status) (all_free-append ss xs)
  where
    go : (b : Bool) → all_free (ss ++ xs) ≡ (all_free ss && all_free xs) → (b && all_free (ss ++ xs)) ≡ ((b && all_free ss) && all_free xs)
    go true e = e
    go false e = refl

pub any_append : (b : Bool) (ss xs : List ChargerState) → any_finished b (ss ++ xs) ≡ any_finished (any_finished b ss) xs
any_append b [] xs = refl
any_append b (s ∷ ss) xs = any_append (or_finished b s) ss xs

pub any_free : (b : Bool) (ss : List ChargerState) → all_free ss ≡ true → any_finished b ss ≡ b
any_free b [] h = refl
any_free b (s ∷ ss) h =
    rw (free_unfinished s.status (and_left (is_free s.status) (all_free ss) h)) (any_free b ss (and_right (is_free s.status) (all_free ss) h))

-- with no car the rounds pass at once
pub spin_free : (limit : Limit) (curve : ℕ → List Point) (done k : ℕ) (ss : List ChargerState) → all_free ss ≡ true
    → spin limit curve done k ss ≡ record { states = ss; rounds = done + k; any = false }
spin_free limit curve done zero ss h = rw add-zero
spin_free limit curve done (suc k) ss h =
    let e : done + suc k ≡ done + 1 + k = omega arith in
    rw (free_charge limit curve ss h, any_free false ss h, e) (spin_free limit curve (done + 1) k ss h)

pub spin_none : (limit : Limit) (curve : ℕ → List Point) (k : ℕ) (ss : List ChargerState) → all_free ss ≡ true
    → spin limit curve 0 k ss ≡ record { states = ss; rounds = k; any = false }
spin_none limit curve k ss h =
    let whole : 0 + k ≡ k = omega arith in
    rw whole at (spin_free limit curve 0 k ss h)

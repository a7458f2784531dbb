-- The places of the cars: how they are gathered, and that rounds leave them.
use mathlib.Core.Path.{◌≡◌, refl, ◌∙◌}
use mathlib.Core.Logic.{inl, inr}
use mathlib.Core.Bool.{true, false}
use mathlib.Core.List.{List, [], ◌∷◌, ◌++◌, map}
use Prim.Native.Nat.{ℕ, ◌+◌, ◌≤◌, ◌<◌}
use native.Mathlib.Numerals.{add-one}
use native.Mathlib.Omega.{arith}
use lib.ListN.{length, get_or, take}
use lib.Seq.{take-suc}
use Rattle.std.proofs.lemmas.List.{length-take-le}
use Rattle.curve.specs.declared.points.Point.{Point}
use Rattle.power.specs.declared.charger_state.ChargerState.{ChargerState}
use Rattle.power.specs.declared.power.Limit.{Limit}
use Rattle.power.specs.ChargerState.{is_free, all_free}
use Rattle.power.specs.Power.{active, request, charge}
use Rattle.power.specs.Code.Bank.{Gaps, Cars}
use Rattle.power.proofs.power.SameCars.{SameCars, none, also, same_requested, same_charged}

-- ---- gathering

gaps_free : (i : ℕ) (ss : List ChargerState) (ps : List ℕ) (s : ChargerState) → is_free s.status ≡ true → Gaps i ss ps → Gaps i (ss ++ (s ∷ [])) ps
gaps_free i [] ps s h g = inl (h, g)
gaps_free i (x ∷ ss) ps s h (inl w) = inl (w.0, gaps_free (i + 1) ss ps s h w.1)
gaps_free i (x ∷ ss) ps s h (inr w) = inr (w.0, w.1, gaps_free (i + 1) ss w.0 s h w.2, w.3)

gaps_car : (i n : ℕ) (ss : List ChargerState) (ps : List ℕ) (s : ChargerState) → is_free s.status ≡ false → n ≡ i + length ss → Gaps i ss ps → Gaps i (ss ++ (s ∷ [])) (ps ++ (n ∷ []))
gaps_car i n [] ps s h e g =
    let here : n ≡ i = omega arith in
    rw (g, here) (inr ([], refl, refl, h))
gaps_car i n (x ∷ ss) ps s h e (inl w) = inl (w.0, gaps_car (i + 1) n ss ps s h (omega arith) w.1)
gaps_car i n (x ∷ ss) ps s h e (inr w) = inr (w.0 ++ (n ∷ []), rw w.1, gaps_car (i + 1) n ss w.0 s h (omega arith) w.2, w.3)

-- no more than there are chargers
gaps_few : (i : ℕ) (ss : List ChargerState) (ps : List ℕ) → Gaps i ss ps → length ps ≤ length ss
gaps_few i [] ps g = rw g (omega arith)
gaps_few i (s ∷ ss) ps (inl w) = omega (arith, gaps_few (i + 1) ss ps w.1)
gaps_few i (s ∷ ss) ps (inr w) = rw w.1 (omega (arith, gaps_few (i + 1) ss w.0 w.2))

module _ (ss : List ChargerState) (i : ℕ) (ps : List ℕ) (h : i < length ss) (cars : Cars (take i ss) ps) where
  -- d stands for a charger past the bank
  pub gathered_free : (d : ChargerState) → is_free (get_or ss i d).status ≡ true → Cars (take (i + 1) ss) ps
  gathered_free d e = record { gaps = rw (add-one i, take-suc ss i d h) (gaps_free 0 (take i ss) ps (get_or ss i d) e cars.gaps) }

  pub gathered_car : (d : ChargerState) → is_free (get_or ss i d).status ≡ false → Cars (take (i + 1) ss) (ps ++ (i ∷ []))
  gathered_car d e =
      let place : i ≡ 0 + length (take i ss) = omega (arith, length-take-le i ss (omega arith)) in
      record { gaps = rw (add-one i, take-suc ss i d h) (gaps_car 0 i (take i ss) ps (get_or ss i d) e place cars.gaps) }

  -- there is room for one more place
  pub gathered_few : length ps < length ss
  gathered_few = omega (arith, gaps_few 0 (take i ss) ps cars.gaps, length-take-le i ss (omega arith))

pub cars_few : (ss : List ChargerState) (ps : List ℕ) → Cars ss ps → length ps ≤ length ss
cars_few ss ps cars = gaps_few 0 ss ps cars.gaps

-- ---- where no place is listed, no car is

pub vacant_all : (i : ℕ) (ss : List ChargerState) → Gaps i ss [] → all_free ss ≡ true
vacant_all i [] g = refl
vacant_all i (s ∷ ss) (inl w) = rw (w.0, vacant_all (i + 1) ss w.1)
vacant_all i (s ∷ ss) (inr w) = cc

pub no_cars : (ss : List ChargerState) (ps : List ℕ) → length ps < 1 → Cars ss ps → all_free ss ≡ true
no_cars ss [] h cars = vacant_all 0 ss cars.gaps
no_cars ss (p ∷ ps) h cars = absurd (omega arith)

-- ---- the cars stay where they are

gaps_stay : {ss ss' : List ChargerState} → SameCars ss ss' → (i : ℕ) (ps : List ℕ) → Gaps i ss ps → Gaps i ss' ps
gaps_stay none i ps g = g
gaps_stay (also s r) i ps (inl w) = inl (s.free ∙ w.0, gaps_stay r (i + 1) ps w.1)
gaps_stay (also s r) i ps (inr w) = inr (w.0, w.1, gaps_stay r (i + 1) w.0 w.2, s.free ∙ w.3)

cars_stay : {ss ss' : List ChargerState} {ps : List ℕ} → SameCars ss ss' → Cars ss ps → Cars ss' ps
cars_stay r cars = record { gaps = gaps_stay r 0 _ cars.gaps }

module _ (curve : ℕ → List Point) (ss : List ChargerState) {ps : List ℕ} (cars : Cars ss ps) where
  pub cars_requested : Cars (map (active (request curve)) ss) ps
  cars_requested = cars_stay (same_requested curve ss) cars

  pub cars_charged : (limit : Limit) → Cars (charge limit curve ss) ps
  cars_charged limit = cars_stay (same_charged limit curve ss) cars

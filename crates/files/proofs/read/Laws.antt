-- Laws of a plan that is read. Assumes nothing.
use mathlib.Core.Path.{◌≡◌, refl, sym, ◌∙◌}
use mathlib.Core.Bool.{Bool, true, false}
use mathlib.Core.Logic.{inl, inr}
use mathlib.Core.List.{List, ◌++◌}
use Prim.Native.Nat.{ℕ, zero, suc, ◌+◌, ◌-◌, ◌*◌, ◌≤◌, ◌<◌}
use native.Mathlib.Nat.{zero-add, add-zero, add-suc, eq-or-lt_of_le}
use native.Mathlib.Omega.{arith}
use borrow.Author.Tests.{ltb-true, ltb-false, le-ltb}
use lib.Dec.{ltb}
use lib.ListN.{length, get_or, take, drop, set, get_or-eq_default}
use lib.Seq.{drop-cons, take_all, length-take-le, take-append-le, drop_at, get_or-set_same, get_or-set_other}
use Rattle.curve.specs.declared.units.Kwh.{Kwh}
use Rattle.charger.specs.Code.Profiles.{curve_at}
use Rattle.charger.proofs.waiting_queue.Part.{before_stays}
use Rattle.charger.proofs.charge_profile_list.Table.{inside, past}
use Rattle.plan.proofs.SearchLaws.{each_at}
use Rattle.plan.specs.Search.{each}
use Rattle.plan.specs.Places.{profile_count}
use Rattle.files.specs.Read.{no_battery, curve_of_profile, battery_of}
use Rattle.curve.specs.declared.points.Point.{Point}

-- ---- the batteries

-- the array of all batteries, at every index
pub all_batteries : (plan : List ℕ) (all : List Kwh) → profile_count plan ≤ 16 → length all ≡ 16 → take 16 all ≡ each (battery_of plan) 0 16
    → (k : ℕ) → get_or all k no_battery ≡ battery_of plan k
unfolding battery_of
all_batteries plan all p n e k = by (ltb k 16) (ltb-true k 16) (ltb-false k 16)
  where
    by : (b : Bool) → (b ≡ true → k < 16) → (b ≡ false → 16 ≤ k) → get_or all k no_battery ≡ battery_of plan k
    by true h g = rw (sym (take_all 16 all (omega arith)) ∙ e) (each_at (battery_of plan) 0 16 k no_battery (h refl) ∙ rw zero-add)
    by false h g = get_or-eq_default all no_battery {n = k} (omega (arith, g refl)) ∙ rw (le-ltb k (profile_count plan) (omega (arith, g refl)))

-- ---- the table of curves

-- the first k profiles have their curves in the table
abbrev pub Filled : List ℕ → List Point → List ℕ → ℕ → Type 0
Filled plan curves lens k = (j : ℕ) → j < k → (get_or lens j 0 ≤ 32) × (take (get_or lens j 0) (drop (32 * j) curves) ≡ curve_of_profile plan j)

-- one profile more, whose curve is the first n points of its part
pub fill_curve : (plan : List ℕ) (curves part rest : List Point) (lens : List ℕ) (k n : ℕ) → 32 * k ≤ length curves → length part ≡ 32 → k < length lens
    → n ≤ 32 → take n part ≡ curve_of_profile plan k → Filled plan curves lens k
    → Filled plan (take (32 * k) curves ++ (part ++ rest)) (set lens k n) (k + 1)
fill_curve plan curves part rest lens k n a b l s e h j g = elim (eq-or-lt_of_le (le_of_lt_suc g)) [
  | inl p ↦ rw (p, get_or-set_same lens k n 0 l) (s, rw (drop_at (take (32 * k) curves) (part ++ rest) (32 * k) (length-take-le (32 * k) curves a), take-append-le n part rest (omega arith)) e)
  | inr q ↦ rw (get_or-set_other lens k j n 0 (λ w. omega arith)) ((h j q).0, rw (before_stays curves (part ++ rest) (32 * k) (32 * j) (get_or lens j 0) (omega (arith, (h j q).0)) a) (h j q).1)
]
  where
    le_of_lt_suc : j < k + 1 → j ≤ k
    le_of_lt_suc w = omega arith

-- the whole table, at every place
pub all_curves : (plan : List ℕ) (curves : List Point) (lens : List ℕ) → profile_count plan ≤ 16 → length curves ≡ 512 → length lens ≡ 16
    → Filled plan curves lens 16 → (k : ℕ) → curve_at curves lens k ≡ curve_of_profile plan k
unfolding curve_of_profile
all_curves plan curves lens p a b h k = by (ltb k 16) (ltb-true k 16) (ltb-false k 16)
  where
    by : (t : Bool) → (t ≡ true → k < 16) → (t ≡ false → 16 ≤ k) → curve_at curves lens k ≡ curve_of_profile plan k
    by true f g =
        let n = get_or lens k 0 in
        let size : 32 * k + n - 32 * k ≡ n = omega arith in
        inside curves lens k (32 * k + n) (omega (arith, f refl)) refl (omega (arith, f refl, (h k (f refl)).0)) ∙ rw size (h k (f refl)).1
    by false f g = past curves lens k (omega (arith, g refl)) ∙ rw (le-ltb k (profile_count plan) (omega (arith, g refl)))

bytes_on : (b : List ℕ) (at k m : ℕ) → at + k + m ≤ length b → take m (drop (at + k) b) ≡ each (λ j. get_or b (at + j) 0) k m
unfolding each
bytes_on b at k zero h = refl
bytes_on b at k (suc m) h = rw (drop-cons b (at + k) 0 (omega arith), ← add-suc, bytes_on b at (suc k) m (omega arith))

-- bytes that lie one behind the other, each by its place
pub bytes_from : (b : List ℕ) (at m : ℕ) → at + m ≤ length b → take m (drop at b) ≡ each (λ j. get_or b (at + j) 0) 0 m
bytes_from b at m h = rw add-zero at (bytes_on b at 0 m (omega arith))

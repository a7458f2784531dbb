-- Laws of the pairs of a vehicle and a charger. Assumes nothing.
use mathlib.Core.Path.{◌≡◌, refl, sym, ap}
use mathlib.Core.Bool.{Bool, true, false, cond, not, ◌&&◌, false≢true}
use mathlib.Core.List.{List}
use Prim.Native.Nat.{ℕ, ◌≤◌, ◌<◌}
use native.Mathlib.Omega.{arith}
use borrow.Author.Tests.{ltb-true, ltb-false}
use lib.Dec.{ltb}
use lib.ListN.{length, get_or}
use Rattle.curve.specs.F64.{within}
use Rattle.engine.specs.Plan.{Plan, fits, rated, output}
use Rattle.plan.specs.Search.{first_index}
use Rattle.engine.specs.declared.site.Site.{Site}
use Rattle.engine.specs.Code.Simulation.{plan_of}
use Rattle.plan.specs.Places.{charger_count, vehicle_count, charger_block}
use Rattle.files.specs.Code.Reading.{Counted, Reads}
use Rattle.files.specs.Read.{charger_of, chargers_of, vehicle_in, vehicles_of, read_plan}
use Rattle.files.specs.Pairs.{fails_at, failing_charger, fails_somewhere, failing_pair}
use Rattle.plan.proofs.SearchLaws.{first_holds, first_missed, length-each}
use Rattle.plan.specs.Plan.{check_blocks}
use Rattle.files.specs.Check.{pair_answer, then_check, check_plan, AllSealed}
use Rattle.files.proofs.Accepted.{sealed-block}
use Rattle.std.specs.Prelude.{Option, Some, None, Result, Ok, Err}
use Rattle.plan.specs.declared.answer.Refusal.{Refusal}

-- ---- the pair that is named

pair_is : (t : Bool) (x y v c : ℕ) → cond {A = Option (ℕ × ℕ)} t (Some (x, y)) None ≡ Some (v, c) → (t ≡ true) × ((x ≡ v) × (y ≡ c))
pair_is true x y v c e =
    let p : ◌≡◌ {A = ℕ × ℕ} (x, y) (v, c) = cc in
    (refl, (ap (λ (q : ℕ × ℕ). q.0) p, ap (λ (q : ℕ × ℕ). q.1) p))
pair_is false x y v c e = absurd (let z : ◌≡◌ {A = ℕ} 0 1 = cc in omega arith)

-- it is a pair of the plan, and it fails
pub pair_fails : (p : Plan) (v c : ℕ) → failing_pair p ≡ Some (v, c) → (v < length p.vehicles) × ((c < length p.chargers) × (fails_at p v c ≡ true))
unfolding failing_pair failing_charger
pair_fails p v c e =
    let n = length p.vehicles in
    let m = length p.chargers in
    let x : ℕ = first_index (fails_somewhere p) 0 n in
    let is = pair_is (ltb x n) x (failing_charger p x) v c e in
    let inside : x < n = ltb-true x n is.0 in
    let some : fails_somewhere p x ≡ true = first_holds (fails_somewhere p) 0 n (omega arith) in
    let charger : failing_charger p x < m = ltb-true (failing_charger p x) m some in
    let bad : fails_at p x (failing_charger p x) ≡ true = first_holds (fails_at p x) 0 m (omega arith) in
    rw (← is.1.0, ← is.1.1) (inside, (charger, bad))

-- ---- no pair is named

no_pair : (t : Bool) (x y : ℕ) → cond {A = Option (ℕ × ℕ)} t (Some (x, y)) None ≡ None → t ≡ false
no_pair true x y e = absurd (let z : ◌≡◌ {A = ℕ} 0 1 = cc in omega arith)
no_pair false x y e = refl

-- then no pair of the plan fails
none_fails : (p : Plan) → failing_pair p ≡ None → (v c : ℕ) → v < length p.vehicles → c < length p.chargers → fails_at p v c ≡ false
unfolding failing_pair failing_charger
none_fails p e v c h l =
    let n = length p.vehicles in
    let m = length p.chargers in
    let x : ℕ = first_index (fails_somewhere p) 0 n in
    let all : n ≤ x = ltb-false x n (no_pair (ltb x n) x (failing_charger p x) e) in
    let nowhere : fails_somewhere p v ≡ false = first_missed (fails_somewhere p) 0 n (omega arith) v (omega arith) (omega arith) in
    let past : m ≤ failing_charger p v = ltb-false (failing_charger p v) m nowhere in
    first_missed (fails_at p v) 0 m (omega arith) c (omega arith) (omega arith)

not_and : (b : Bool) → (true && not b) ≡ false → b ≡ true
not_and true e = refl
not_and false e = absurd (false≢true (sym e))

-- and every pair that fits is charged within a week
pub charged_in_time : (p : Plan) → failing_pair p ≡ None → (v c : ℕ) → v < length p.vehicles → c < length p.chargers → fits p v c ≡ true
    → within (output p v c).duration.0 ≡ true
unfolding fits output rated
charged_in_time p e v c h l f = not_and (within (output p v c).duration.0) (rw f at (none_fails p e v c h l))

-- ---- what a check of the plan says of them

pub pair_places : (plan : List ℕ) (v c : ℕ) → Counted plan → failing_pair (read_plan plan) ≡ Some (v, c) → (v < 64) × (c < 32)
unfolding vehicles_of chargers_of
pair_places plan v c n e =
    let f = pair_fails (read_plan plan) v c e in
    omega (arith, f, length-each (vehicle_in plan) 0 (vehicle_count plan), length-each (λ (j : ℕ). charger_of (charger_block plan j)) 0 (charger_count plan))

fine_pairs : (plan : List ℕ) (pair : Option (ℕ × ℕ)) → pair_answer plan pair ≡ Ok tt → pair ≡ None
fine_pairs plan None e = refl
fine_pairs plan (Some pair) e = absurd (let z : ◌≡◌ {A = ℕ} 0 1 = cc in omega arith)

fine_answer : (a b : Result (Unit {0}) Refusal) → then_check a b ≡ Ok tt → (a ≡ Ok tt) × (b ≡ Ok tt)
fine_answer (Ok u) b e = (refl, e)
fine_answer (Err x) b e = absurd (let z : ◌≡◌ {A = ℕ} 0 1 = cc in omega arith)

-- a plan that is not refused: its blocks are fine, and no pair fails
pub plan_fine : (plan : List ℕ) → check_plan plan ≡ Ok tt → (check_blocks plan ≡ Ok tt) × (failing_pair (read_plan plan) ≡ None)
unfolding check_plan
plan_fine plan e =
    let both = fine_answer (check_blocks plan) (pair_answer plan (failing_pair (read_plan plan))) e in
    (both.0, fine_pairs plan (failing_pair (read_plan plan)) both.1)

-- a plan whose blocks are refused is refused for them
pub blocks_refused : (plan : List ℕ) (x : Refusal) → check_blocks plan ≡ Err x → check_plan plan ≡ Err x
unfolding check_plan
blocks_refused plan x e = rw e refl

-- so its blocks are sealed blocks
pub all_sealed : (plan : List ℕ) → ((k : ℕ) → get_or plan k 0 < 256) → (a : Result (Unit {0}) Refusal) → a ≡ check_plan plan → AllSealed plan a
all_sealed plan bytes (Ok u) e = sealed-block plan (plan_fine plan (sym e)).0 bytes
all_sealed plan bytes (Err x) e = tt

-- what reading a plan whose blocks are fine answers, by its pairs
pub reads : (plan : List ℕ) (site : Site) (a : Result (Unit {0}) Refusal) → check_blocks plan ≡ Ok tt → plan_of site ≡ read_plan plan
    → a ≡ pair_answer plan (failing_pair (read_plan plan)) → Reads plan site a
unfolding check_plan
reads plan site (Ok u) b r e = record { fine = rw b (sym e); admitted = b; read = r }
reads plan site (Err x) b r e = rw b (sym e)

-- What a plan has whose blocks pass their check. Assumes nothing.
use mathlib.Core.Path.{◌≡◌, refl}
use mathlib.Core.Bool.{Bool, true, false, cond}
use mathlib.Core.List.{List, [], ◌∷◌}
use Prim.Native.Nat.{ℕ, zero, suc, ◌+◌, ◌*◌, ◌/◌, ◌≤◌, ◌<◌}
use native.Mathlib.Omega.{arith}
use borrow.Author.Tests.{ltb-true, ltb-false, leb-true, eqb-true, eqb-false, not-false, lt-leb, le-leb, ne_eqb}
use lib.Dec.{ltb, eqb}
use lib.ListN.{length, get_or, take, drop, length-take, length-drop, get_or-eq_default}
use lib.Seq.{length-take-le, get_or-take, get_or-drop}
use Rattle.charger.specs.Lists.{All}
use Rattle.engine.specs.Code.Simulation.{InTime}
use Rattle.plan.specs.Bytes.{le_at}
use Rattle.plan.specs.Blocks.{sealed, block, whole_blocks}
use Rattle.plan.specs.Search.{first_index, holds}
use Rattle.plan.specs.Fields.{header_tests, profile_tests, charger_tests, vehicle_tests}
use Rattle.plan.specs.Places.{profile_count, charger_count, vehicle_count, kind_at, profile_block, charger_block, vehicle_block}
use Rattle.files.specs.Code.Reading.{Counted}
use Rattle.plan.specs.Plan.{with_id, count_tests, field_tests, broken, rules, first_refusal, check_blocks}
use Rattle.files.specs.Read.{profile_index, vehicle_of, vehicle_in, vehicles_of}
use Rattle.plan.specs.declared.answer.Rule.{Rule}
use Rattle.plan.specs.declared.answer.Rule.TheVariants.{Length}
use Rattle.plan.specs.declared.places.Kind.TheVariants.{Profile, Charger, Vehicle as VehicleKind}
use Rattle.plan.specs.declared.answer.Refusal.{Refusal}
use Rattle.plan.specs.declared.answer.Refusal.TheVariants.{Broken}
use Rattle.plan.proofs.ids.Laws.{with_id_from, with_id_to}
use Rattle.plan.proofs.blocks.Laws.{block_read, passes-sealed, whole_blocks_lem}
use Rattle.plan.proofs.SearchLaws.{holds_at, first_missed, all_each}
use Rattle.std.specs.Prelude.{Result, Ok, Err}

-- ---- no rule refuses a block

not_fine : {x : Refusal} → ◌≡◌ {A = Result (Unit {0}) Refusal} (Err x) (Ok tt) → ⊥
not_fine e = let z : ◌≡◌ {A = ℕ} 0 1 = cc in omega arith

-- an answer that is fine was not the refusal
passed_over : (t : Bool) (x : Refusal) (next : Result (Unit {0}) Refusal) → cond t (Err x) next ≡ Ok tt → (t ≡ false) × (next ≡ Ok tt)
passed_over true x next e = absurd (not_fine e)
passed_over false x next e = (refl, e)

no_refusal : (rs : List Rule) (plan : List ℕ) (n : ℕ) → first_refusal rs plan n ≡ Ok tt → (i : ℕ) → i < length rs → (k : ℕ) → k < n
    → broken (get_or rs i Length) plan k ≡ false
unfolding first_refusal
no_refusal [] plan n e i h k l = absurd (omega arith)
no_refusal (r ∷ rs) plan n e zero h k l =
    let at : ℕ = first_index (broken r plan) 0 n in
    let miss = passed_over (ltb at n) (Broken r (at + 1)) (first_refusal rs plan n) e in
    first_missed (broken r plan) 0 n (omega (arith, ltb-false at n miss.0)) k (omega arith) (omega arith)
no_refusal (r ∷ rs) plan n e (suc i) h k l =
    let at : ℕ = first_index (broken r plan) 0 n in
    no_refusal rs plan n (passed_over (ltb at n) (Broken r (at + 1)) (first_refusal rs plan n) e).1 i (omega arith) k l

-- ---- the kinds of the blocks

kind_profile : (plan : List ℕ) (k : ℕ) → k < profile_count plan → kind_at plan (1 + k) ≡ Profile
unfolding kind_at
kind_profile plan k h = rw (ne_eqb (1 + k) 0 (λ e. omega arith), le-leb (1 + k) (profile_count plan) (omega arith))

kind_charger : (plan : List ℕ) (c : ℕ) → c < charger_count plan → kind_at plan (1 + profile_count plan + c) ≡ Charger
unfolding kind_at
kind_charger plan c h =
    let k = 1 + profile_count plan + c in
    rw (ne_eqb k 0 (λ e. omega arith), lt-leb k (profile_count plan) (omega arith), le-leb k (profile_count plan + charger_count plan) (omega arith))

pub kind_vehicle : (plan : List ℕ) (v : ℕ) → kind_at plan (1 + profile_count plan + charger_count plan + v) ≡ VehicleKind
unfolding kind_at
kind_vehicle plan v =
    let k = 1 + profile_count plan + charger_count plan + v in
    rw (ne_eqb k 0 (λ e. omega arith), lt-leb k (profile_count plan) (omega arith), lt-leb k (profile_count plan + charger_count plan) (omega arith))

length_answer : (t : Bool) (next : Result (Unit {0}) Refusal) → cond t next (Err (Broken Length 0)) ≡ Ok tt → (t ≡ true) × (next ≡ Ok tt)
length_answer true next e = (refl, e)
length_answer false next e = absurd (not_fine e)

module _ (plan : List ℕ) (fine : check_blocks plan ≡ Ok tt) where
  whole : (whole_blocks (length plan) 113 ≡ true) × (first_refusal rules plan (length plan / 512) ≡ Ok tt)
  unfolding check_blocks
  whole = length_answer (whole_blocks (length plan) 113) (first_refusal rules plan (length plan / 512)) fine

  -- the i-th rule refuses no block
  pub rule : (i : ℕ) → i < 7 → (k : ℕ) → k < length plan / 512 → broken (get_or rules i Length) plan k ≡ false
  rule = no_refusal rules plan (length plan / 512) whole.1

  some_blocks : (length plan ≡ 512 * (length plan / 512)) × (0 < length plan / 512)
  some_blocks = let w = whole_blocks_lem (length plan) 113 whole.0 in omega arith

  pub counted : Counted plan
  counted =
      let b = block plan 0 in
      let test = holds_at (count_tests b (length plan / 512)) (not-false _ (rule 1 (omega arith) 0 some_blocks.1)) in
      let p : le_at 2 b 4 ≡ profile_count plan = block_read 2 plan 0 4 (omega arith) in
      let c : le_at 2 b 6 ≡ charger_count plan = block_read 2 plan 0 6 (omega arith) in
      let v : le_at 2 b 8 ≡ vehicle_count plan = block_read 2 plan 0 8 (omega arith) in
      record {
        profiles = omega (arith, leb-true (le_at 2 b 4) 16 (test 1));
        chargers = omega (arith, leb-true (le_at 2 b 6) 32 (test 2));
        vehicles = omega (arith, leb-true (le_at 2 b 8) 64 (test 3));
        blocks = omega (arith, some_blocks, eqb-true (1 + le_at 2 b 4 + le_at 2 b 6 + le_at 2 b 8) (length plan / 512) (test 4));
      }

  -- a block of bytes that passes its check is a sealed block
  pub sealed-block : ((i : ℕ) → get_or plan i 0 < 256) → (k : ℕ) → 512 * k < length plan → block plan k ≡ sealed (k + 1) (take 508 (block plan k))
  unfolding block
  sealed-block bytes k h =
      let part = drop (512 * k) plan in
      let long : length (take 512 part) ≡ 512 = length-take-le 512 part (omega (arith, length-drop (512 * k) plan, some_blocks)) in
      let byte : (i : ℕ) → get_or (take 512 part) i 0 < 256 = λ i. byte_in i (ltb i 512) refl in
      passes-sealed (k + 1) (take 512 part) long byte (not-false _ (rule 0 (omega arith) k (omega (arith, some_blocks))))
    where
      byte_in : (i : ℕ) (t : Bool) → ltb i 512 ≡ t → get_or (take 512 (drop (512 * k) plan)) i 0 < 256
      byte_in i true e = rw (get_or-take 512 (drop (512 * k) plan) i 0 (ltb-true i 512 e), get_or-drop (512 * k) plan i 0) (bytes (512 * k + i))
      byte_in i false e =
          let part = drop (512 * k) plan in
          let past : length (take 512 part) ≤ i = omega (arith, length-take 512 part, ltb-false i 512 e) in
          rw (get_or-eq_default (take 512 part) 0 {n = i} past) (omega arith)

  -- of a vehicle's block
  pub vehicle_rule : (i : ℕ) → i < 7 → (v : ℕ) → v < vehicle_count plan → broken (get_or rules i Length) plan (1 + profile_count plan + charger_count plan + v) ≡ false
  vehicle_rule i h v l = rule i h (1 + profile_count plan + charger_count plan + v) (omega (arith, counted, some_blocks))

  field_tests_lem : (k : ℕ) → k < length plan / 512 → holds (field_tests (kind_at plan k) (block plan k)) ≡ true
  field_tests_lem k h = not-false _ (rule 2 (omega arith) k h)

  -- the tests of each block, by their places in its list
  pub vehicle_tests_lem : (v : ℕ) → v < vehicle_count plan → (i : ℕ) → get_or (vehicle_tests (vehicle_block plan v)) i true ≡ true
  vehicle_tests_lem v h =
      holds_at (vehicle_tests (vehicle_block plan v)) (rw (kind_vehicle plan v) at (field_tests_lem (1 + profile_count plan + charger_count plan + v) (omega (arith, counted, some_blocks))))

  pub charger_tests_lem : (c : ℕ) → c < charger_count plan → (i : ℕ) → get_or (charger_tests (charger_block plan c)) i true ≡ true
  charger_tests_lem c h =
      holds_at (charger_tests (charger_block plan c)) (rw (kind_charger plan c h) at (field_tests_lem (1 + profile_count plan + c) (omega (arith, counted, some_blocks))))

  pub profile_tests_lem : (k : ℕ) → k < profile_count plan → (i : ℕ) → get_or (profile_tests (profile_block plan k)) i true ≡ true
  profile_tests_lem k h =
      holds_at (profile_tests (profile_block plan k)) (rw (kind_profile plan k h) at (field_tests_lem (1 + k) (omega (arith, counted, some_blocks))))

  pub header_tests_lem : (i : ℕ) → get_or (header_tests (block plan 0)) i true ≡ true
  unfolding kind_at
  header_tests_lem = holds_at (header_tests (block plan 0)) (field_tests_lem 0 some_blocks.1)

  -- ---- what the engines ask

  in_time_at : (v : ℕ) → v < vehicle_count plan → InTime (vehicle_in plan v)
  unfolding vehicle_in vehicle_of
  in_time_at v h =
      let b = vehicle_block plan v in
      (leb-true (le_at 8 b 40) 1000000 (vehicle_tests_lem v h 4), leb-true (le_at 8 b 48) 1000000 (vehicle_tests_lem v h 5))

  pub in_time : All InTime (vehicles_of plan)
  unfolding vehicles_of
  in_time = all_each (vehicle_in plan) 0 (vehicle_count plan) (λ v a b. in_time_at v (omega arith))

  -- 11: the vehicle's profile is one of the plan's
  named_at : (v : ℕ) → v < vehicle_count plan → (vehicle_in plan v).profile < profile_count plan
  unfolding vehicle_in vehicle_of profile_index
  named_at v h =
      let id = le_at 4 (vehicle_block plan v) 4 in
      let end = 1 + profile_count plan in
      let missed : eqb (with_id plan 1 end id) end ≡ false = rw (kind_vehicle plan v) at (vehicle_rule 6 (omega arith) v h) in
      omega (arith, eqb-false (with_id plan 1 end id) end missed, with_id_from plan 1 end id, with_id_to plan 1 end id (omega arith))

  pub profiles_named : All (λ x. x.profile < profile_count plan) (vehicles_of plan)
  unfolding vehicles_of
  profiles_named = all_each (vehicle_in plan) 0 (vehicle_count plan) (λ v a b. named_at v (omega arith))

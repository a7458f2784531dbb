-- What request 11 says of a call: as it is refused, and of the plan that it writes. Assumes nothing.
use Rattle.std.proofs.Common.{◌≡◌, ℕ, ◌+◌, ◌*◌, ◌%◌, ◌<◌, ◌≤◌, false, not, ◌||◌, eqb, ltb, Option, Some, None, Result, Ok, Err, List, length, take, drop, sym, refl, ap, ◌∙◌, zero-add, eqb-true, ltb-false, arith, length-drop, take_at, drop_at}
use borrow.Author.Tests.{eqb-false, not-false}
use lib.ListN.{get_or-append}
use lib.Ieee.{binary64, of_bits}
use lib.Seq.{sets, sets-eq, take-append-le, drop-append-le}
use Rattle.curve.specs.F64.{ratio}
use Rattle.curve.proofs.float.Monotone.{or_false}
use Rattle.plan.specs.Answer.{number}
use Rattle.plan.specs.Bytes.{le_at}
use Rattle.plan.specs.Blocks.{block}
use Rattle.plan.specs.Places.{profile_count, charger_count, vehicle_count, start_of, vehicle_block}
use Rattle.plan.specs.Plan.{check_blocks}
use Rattle.plan.specs.declared.answer.Refusal.{Refusal}
use Rattle.plan.specs.declared.places.Kind.TheVariants.{Vehicle}
use Rattle.plan.proofs.bytes.Laws.{le_at-same}
use Rattle.files.specs.Read.{read_plan}
use Rattle.files.specs.Pairs.{failing_pair}
use Rattle.files.specs.Check.{pair_answer, check_plan}
use Rattle.files.specs.Book.{written}
use Rattle.files.specs.Code.Reading.{Counted}
use Rattle.files.proofs.Accepted.{counted}
use Rattle.files.proofs.check.PairLaws.{plan_fine}
use Rattle.practice.specs.Xorshift.{draw}
use Rattle.practice.specs.PracticePlan.{car_block, practice_plan}
use Rattle.practice.specs.Promises.{Same, plan_length, IsCopy, Copies, Only12}
use Rattle.practice.proofs.practice_plan.CarBytes.{id_in, start_in, target_in, arrival_in, profile_same, idle_same, rest_same}
use Rattle.practice.proofs.practice_plan.Fields.{bits_back, bits_fit}
use Rattle.practice.proofs.practice_plan.PlanBytes.{length_vehicle, length_made, same_profiles, same_chargers, counts_cars, same_letters, same_header, same_kept, car_there}
use Rattle.practice.proofs.practice_plan.Checked.{blocks_fine}

-- ---- the plan as an outcome

abbrev number_of : Result (Unit {0}) Refusal → ℕ
number_of (Ok u) = 12
number_of (Err x) = number x

by_pairs : (plan : List ℕ) (pair : Option (ℕ × ℕ)) → number_of (pair_answer plan pair) ≡ 12
by_pairs plan None = refl
by_pairs plan (Some pair) = refl

-- ---- what 19 leaves

pub record Allowed (count room vehicles : ℕ) : Type 0 where
  pub some : 1 ≤ count
  pub few : count ≤ 64
  pub long : 57856 ≤ room
  pub one : vehicles ≡ 1

pub allowed : (seed count room vehicles : ℕ) → (eqb seed 0 || eqb count 0 || ltb 64 count || ltb room 57856 || not (eqb vehicles 1)) ≡ false → Allowed count room vehicles
allowed seed count room vehicles e =
    let four = or_false (eqb seed 0 || eqb count 0 || ltb 64 count || ltb room 57856) (not (eqb vehicles 1)) e in
    let three = or_false (eqb seed 0 || eqb count 0 || ltb 64 count) (ltb room 57856) four.0 in
    let two = or_false (eqb seed 0 || eqb count 0) (ltb 64 count) three.0 in
    let none = eqb-false count 0 (or_false (eqb seed 0) (eqb count 0) two.0).1 in
    record {
      some = omega (arith, none);
      few = omega (arith, ltb-false 64 count two.1);
      long = omega (arith, ltb-false room 57856 three.1);
      one = eqb-true vehicles 1 (not-false (eqb vehicles 1) four.1);
    }

module _ (plan : List ℕ) (fine : check_plan plan ≡ Ok tt) (one : vehicle_count plan ≡ 1) (seed count : ℕ) (some : 1 ≤ count) (few : count ≤ 64) where
  blocks : check_blocks plan ≡ Ok tt
  blocks = (plan_fine plan fine).0

  abbrev c : Counted plan
  c = counted plan blocks

  abbrev m : List ℕ
  m = practice_plan plan seed count

  abbrev n : ℕ
  n = plan_length plan seed count

  abbrev f : ℕ
  f = start_of plan Vehicle

  size : length m ≡ n
  size = length_made plan c one seed count

  checked : check_plan m ≡ pair_answer m (failing_pair (read_plan m))
  unfolding check_plan
  checked = rw (blocks_fine plan blocks one seed count some few)

  pub only_12 : Only12 m
  only_12 = record { refused = λ x e. ap number_of (sym e ∙ checked) ∙ by_pairs m (failing_pair (read_plan m)); fine = λ e. checked ∙ rw e }

  -- ---- the cars

  is_copy : (i : ℕ) → i < count → IsCopy plan seed count i (block m (f + i))
  unfolding car_block
  is_copy i h =
      let v = vehicle_block plan 0 in
      let l = length_vehicle plan c one seed count in
      let from = draw seed (3 * i + 2) % 512 in
      let to = 512 + draw seed (3 * i + 3) % 512 in
      let when = draw seed (3 * i + 1) % 86400 in
      let start = ratio from 1024 in
      let target = ratio to 1024 in
      let place = f + 1 + i in
      rw (car_there plan c one seed count i h)
      (record {
        id = id_in v l place (i + 1) start target when (omega arith);
        arrival = arrival_in v l place (i + 1) start target when (omega arith);
        start = ap (of_bits binary64) (start_in v l place (i + 1) start target when (bits_fit from 1024)) ∙ bits_back from 1024;
        target = ap (of_bits binary64) (target_in v l place (i + 1) start target when (bits_fit to 1024)) ∙ bits_back to 1024;
        profile = profile_same v l place (i + 1) start target when;
        idle = idle_same v l place (i + 1) start target when;
        rest = rest_same v l place (i + 1) start target when;
      })

  -- ---- what stands in the output

  module _ (old : List ℕ) where
    abbrev new : List ℕ
    new = written m old

    pub equal : take n new ≡ m
    unfolding written
    equal = take_at m _ n size

    pub past : drop n new ≡ drop n old
    unfolding written
    past = rw size (drop_at m (drop n old) n size)

    in_plan : Same new m 0 n
    unfolding written
    in_plan k a b = get_or-append m _ 0 k (omega (arith, size))

    block_in : (k : ℕ) → 512 * k + 512 ≤ n → block new k ≡ block m k
    unfolding written block
    block_in k h =
        let rest = drop (length m) old in
        ap (take 512) (drop-append-le (512 * k) m rest (omega (arith, size))) ∙ take-append-le 512 (drop (512 * k) m) rest (omega (arith, size, length-drop (512 * k) m))

    number_in : (w at : ℕ) → at + w ≤ n → le_at w new at ≡ le_at w m at
    number_in w at h = le_at-same w new m at (λ k a b. in_plan k (omega arith) (omega arith))

    profiles : profile_count new ≡ profile_count plan
    profiles = number_in 2 4 (omega arith) ∙ same_profiles plan c one seed count

    chargers : charger_count new ≡ charger_count plan
    chargers = number_in 2 6 (omega arith) ∙ same_chargers plan c one seed count

    pub copies : Copies plan seed count new
    copies =
        record {
          profiles = profiles;
          chargers = chargers;
          vehicles = number_in 2 8 (omega arith) ∙ counts_cars plan c one seed count few;
          letters = λ k a b. in_plan k a (omega arith) ∙ same_letters plan c one seed count k a b;
          header = λ k a b. in_plan k (omega arith) (omega arith) ∙ same_header plan c one seed count k a b;
          kept = λ k a b. in_plan k (omega arith) (omega arith) ∙ same_kept plan c one seed count k a b;
          cars = λ i h. rw (profiles, chargers, block_in (f + i) (omega arith)) (is_copy i h);
        }

    -- stored from the start on, it is written: it is not longer than the longest plan
    pub stored : 57856 ≤ length old → sets old 0 m ≡ new
    unfolding written
    stored h = rw zero-add at (sets-eq m old 0 (omega (arith, size, c.profiles, c.chargers)))

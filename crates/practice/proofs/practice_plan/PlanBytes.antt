-- What is read of a practice plan: the header, the plan's own blocks, and the cars. Assumes nothing.
use Rattle.std.proofs.Common.{◌≡◌, refl, ℕ, ◌+◌, ◌-◌, ◌*◌, ◌<◌, ◌≤◌, List, [], ◌++◌, length, take, drop, sym, ap, ◌∙◌, append-nil, add-zero, zero-add, arith, length-append, length-drop, length-take-le, take-append-drop, drop-drop, drop_at, take_at}
use lib.Seq.{take-append-le, drop-append-le}
use Rattle.plan.specs.Bytes.{pieces, stretch}
use Rattle.plan.specs.Blocks.{block}
use Rattle.plan.specs.Header.{header_counting}
use Rattle.plan.specs.Places.{profile_count, charger_count, vehicle_count, start_of, vehicle_block}
use Rattle.plan.specs.declared.places.Kind.TheVariants.{Vehicle}
use Rattle.plan.proofs.bytes.Laws.{length-pieces, Begins, piece_at, length-stretch, stretch_there}
use Rattle.plan.proofs.header.Laws.{length_header, first_byte, later_byte, vehicles_counted, first_fields, header_dropped}
use Rattle.files.specs.Code.Reading.{Counted}
use Rattle.practice.specs.PracticePlan.{cars_at, car_block, practice_plan}
use Rattle.practice.specs.Promises.{Same, plan_length}
use Rattle.practice.proofs.practice_plan.Stored.{length-car_block}

-- a block between a header and what follows does not go by these
between : (h m r : List ℕ) (k : ℕ) → length h ≡ 512 → 512 * (k + 1) ≤ length m → block (h ++ (m ++ r)) (1 + k) ≡ block m k
unfolding block
between h m r k one room =
    let e : 512 * (1 + k) ≡ 512 + 512 * k = omega arith in
    let there : drop (512 + 512 * k) (h ++ (m ++ r)) ≡ drop (512 * k) m ++ r
    = sym (drop-drop (512 * k) 512 (h ++ (m ++ r))) ∙ rw (drop_at h (m ++ r) 512 one, drop-append-le (512 * k) m r (omega arith)) in
    rw (e, there) (take-append-le 512 (drop (512 * k) m) r (omega (arith, length-drop (512 * k) m)))

-- what a list begins with
taken : (l x : List ℕ) (n : ℕ) → Begins l x → length x ≡ n → take n l ≡ x
unfolding Begins
taken l x n (r, e) h = rw e (take_at x r n h)

module _ (plan : List ℕ) (c : Counted plan) (one : vehicle_count plan ≡ 1) (seed count : ℕ) where
  abbrev pub made : List ℕ
  made = practice_plan plan seed count

  abbrev pub first : ℕ
  first = start_of plan Vehicle

  abbrev vehicle : List ℕ
  vehicle = vehicle_block plan 0

  abbrev header : List ℕ
  header = header_counting count plan

  abbrev kept : List ℕ
  kept = stretch plan 512 (cars_at plan)

  abbrev car : ℕ → List ℕ
  car = car_block vehicle seed (first + 1)

  abbrev cars : List ℕ
  cars = pieces car 0 count

  pub long : 512 * first + 512 ≡ length plan
  long = omega (arith, c.blocks, one)

  pub length_vehicle : length vehicle ≡ 512
  unfolding block
  length_vehicle = rw add-zero (length-take-le 512 (drop (512 * first) plan) (omega (arith, length-drop (512 * first) plan, long)))

  length_head : length header ≡ 512
  length_head = length_header count plan (omega (arith, long))

  length_kept : length kept ≡ 512 * first - 512
  length_kept = length-stretch plan 512 (cars_at plan) (omega (arith, long))

  wide : (k : ℕ) → length (car k) ≡ 512
  wide = length-car_block vehicle length_vehicle seed (first + 1)

  pub length_made : length made ≡ plan_length plan seed count
  unfolding practice_plan
  length_made = rw (length-append, length-append, length-pieces car 512 wide 0 count) (omega (arith, length_head, length_kept))

  -- ---- the header

  pub same_profiles : profile_count made ≡ profile_count plan
  unfolding practice_plan
  same_profiles = first_fields count plan (omega (arith, long)) (kept ++ cars) 2 4 (omega arith)

  pub same_chargers : charger_count made ≡ charger_count plan
  unfolding practice_plan
  same_chargers = first_fields count plan (omega (arith, long)) (kept ++ cars) 2 6 (omega arith)

  pub counts_cars : count ≤ 64 → vehicle_count made ≡ count
  unfolding practice_plan
  counts_cars h = vehicles_counted count plan (omega (arith, long)) (kept ++ cars) (omega arith)

  pub same_letters : Same made plan 0 8
  unfolding practice_plan
  same_letters k a b = first_byte count plan (omega (arith, long)) (kept ++ cars) k b

  pub same_header : Same made plan 10 508
  unfolding practice_plan
  same_header k a b = later_byte count plan (omega (arith, long)) (kept ++ cars) k a b

  pub first_block : block made 0 ≡ header
  unfolding practice_plan block
  first_block = take_at header (kept ++ cars) 512 length_head

  -- ---- the profiles and chargers

  pub same_kept : Same made plan 512 (cars_at plan)
  unfolding practice_plan
  same_kept = stretch_there made header plan cars 512 (cars_at plan) refl length_head (omega (arith, long))

  -- the plan itself in the same parts
  own_parts : plan ≡ take 512 plan ++ (kept ++ drop (cars_at plan - 512) (drop 512 plan))
  own_parts = sym (ap (λ (l : List ℕ). take 512 plan ++ l) (take-append-drop (cars_at plan - 512) (drop 512 plan)) ∙ take-append-drop 512 plan)

  pub same_block : (k : ℕ) → 1 ≤ k → k < first → block made k ≡ block plan k
  unfolding practice_plan
  same_block k a b =
      let i : ℕ = k - 1 in
      let e : k ≡ 1 + i = omega arith in
      let room : 512 * (i + 1) ≤ length kept = omega (arith, length_kept) in
      rw e
      (between header kept cars i length_head room
      ∙ sym (ap (λ (l : List ℕ). block l (1 + i)) own_parts ∙ between (take 512 plan) kept _ i (length-take-le 512 plan (omega (arith, long))) room))

  -- ---- the cars

  cars_behind : drop (512 * first) made ≡ cars
  unfolding practice_plan
  cars_behind =
      let e : 512 * first ≡ 512 + (512 * first - 512) = omega arith in
      ap (λ (n : ℕ). drop n (header ++ (kept ++ cars))) e ∙ header_dropped count plan (omega (arith, long)) (kept ++ cars) (512 * first - 512)
      ∙ drop_at kept cars (512 * first - 512) length_kept

  pub car_there : (i : ℕ) → i < count → block made (first + i) ≡ car i
  unfolding block
  car_there i h =
      let e : 512 * (first + i) ≡ 512 * first + 512 * i = omega arith in
      let there : drop (512 * first + 512 * i) made ≡ drop (512 * i) (cars ++ []) = sym (drop-drop (512 * i) (512 * first) made) ∙ rw (cars_behind, append-nil) in
      rw (e, there) (rw zero-add at (taken (drop (512 * i) (cars ++ [])) (car (0 + i)) 512 (piece_at car 512 wide 0 count i [] h) (wide (0 + i))))

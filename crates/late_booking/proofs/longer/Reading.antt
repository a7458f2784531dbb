-- What is read in a longer plan: what is read in the plan, and one vehicle more. Assumes nothing.
use mathlib.Core.Path.{◌≡◌, refl, sym, ap, ◌∙◌}
use mathlib.Core.Bool.{Bool, true, false, cond}
use mathlib.Core.List.{List, [], ◌∷◌, ◌++◌}
use Prim.Native.Nat.{ℕ, ◌+◌, ◌-◌, ◌*◌, ◌≤◌, ◌<◌}
use native.Mathlib.Nat.{add-zero, zero-add}
use native.Mathlib.Numerals.{add-one}
use native.Mathlib.Omega.{arith}
use borrow.Author.Tests.{ltb-true}
use lib.Dec.{ltb}
use lib.ListN.{length, drop, length-drop}
use lib.Seq.{take_all, drop-length, take-append-le}
use Rattle.plan.specs.Bytes.{le_at}
use Rattle.plan.specs.Blocks.{block}
use Rattle.plan.specs.Search.{each}
use Rattle.plan.specs.Places.{profile_count, charger_count, vehicle_count, place_of, profile_block, charger_block, vehicle_block}
use Rattle.plan.specs.Plan.{id_at, with_id}
use Rattle.plan.specs.declared.places.Kind.{Kind}
use Rattle.plan.specs.declared.places.Kind.TheVariants.{Header, Profile, Charger, Vehicle}
use Rattle.plan.proofs.blocks.Laws.{block_read}
use Rattle.plan.proofs.SearchLaws.{first_same, each_suc, each_same}
use Rattle.files.specs.Read.{no_battery, curve_of_profile, battery_of, charger_of, row_of_charger, chargers_of, connector_rows, profile_index, vehicle_in, vehicles_of, queue_places_of, limit_of, read_plan}
use Rattle.files.specs.Code.Reading.{Counted}
use Rattle.late_booking.specs.LongerPlan.{longer}
use Rattle.late_booking.specs.LateCar.{car_of, with_vehicle}
use Rattle.plan.proofs.header.Laws.{later_byte, vehicles_counted, first_fields, later_fields}
use Rattle.late_booking.proofs.longer.Bytes.{rest_of}

-- the branch that is taken is the same
pub cond_same : {A : Type 0} (t : Bool) {x y : A} (z : A) → (t ≡ true → x ≡ y) → cond t x z ≡ cond t y z
cond_same true z h = h refl
cond_same false z h = refl

module _ (plan car : List ℕ) (c : Counted plan) where
  long : 512 ≤ length plan
  long = omega (arith, c.blocks)

  -- ---- the header

  abbrev v : ℕ
  v = vehicle_count plan + 1

  abbrev rest : List ℕ
  rest = drop 512 plan ++ car

  pub same_profiles : profile_count (longer plan car) ≡ profile_count plan
  unfolding longer
  same_profiles = first_fields v plan long rest 2 4 (omega arith)

  pub same_chargers : charger_count (longer plan car) ≡ charger_count plan
  unfolding longer
  same_chargers = first_fields v plan long rest 2 6 (omega arith)

  pub one_more : vehicle_count (longer plan car) ≡ vehicle_count plan + 1
  unfolding longer
  one_more = vehicles_counted v plan long rest (omega (arith, c.vehicles))

  pub same_limit : limit_of (longer plan car) ≡ limit_of plan
  unfolding longer limit_of
  same_limit = rw (later_fields v plan long rest 1 12 (omega arith) (omega arith), later_fields v plan long rest 8 16 (omega arith) (omega arith))

  pub same_queue_places : queue_places_of (longer plan car) ≡ queue_places_of plan
  unfolding longer queue_places_of
  same_queue_places = each_same _ _ 0 64 (λ k a b. later_byte v plan long rest (24 + k) (omega arith) (omega arith))

  -- ---- the blocks

  -- blocks go by the counts of profiles and chargers
  pub same_place : (kind : Kind) (i : ℕ) → place_of (longer plan car) kind i ≡ place_of plan kind i
  same_place Header i = refl
  same_place Profile i = refl
  same_place Charger i = rw same_profiles
  same_place Vehicle i = rw (same_profiles, same_chargers)

  pub same_block : (k : ℕ) → 1 ≤ k → 512 * k + 512 ≤ length plan → block (longer plan car) k ≡ block plan k
  unfolding block
  same_block k a b =
      rw (rest_of plan car long (512 * k) (omega arith) (omega arith))
      (take-append-le 512 (drop (512 * k) plan) car (omega (arith, length-drop (512 * k) plan)))

  pub profile-block : (k : ℕ) → k < profile_count plan → profile_block (longer plan car) k ≡ profile_block plan k
  profile-block k h = same_block (1 + k) (omega arith) (omega (arith, c.blocks))

  pub charger-block : (i : ℕ) → i < charger_count plan → charger_block (longer plan car) i ≡ charger_block plan i
  charger-block i h = rw same_profiles (same_block (1 + profile_count plan + i) (omega arith) (omega (arith, c.blocks)))

  pub vehicle-block : (v : ℕ) → v < vehicle_count plan → vehicle_block (longer plan car) v ≡ vehicle_block plan v
  vehicle-block v h =
      rw (same_profiles, same_chargers) (same_block (1 + profile_count plan + charger_count plan + v) (omega arith) (omega (arith, c.blocks)))

  -- the last one is the car
  pub car-block : length car ≡ 512 → vehicle_block (longer plan car) (vehicle_count plan) ≡ car
  unfolding block
  car-block one =
      rw (same_profiles, same_chargers, ← c.blocks, rest_of plan car long (length plan) long (omega arith), drop-length) (take_all 512 car (omega arith))

  -- ---- the profiles

  pub same_curve : (k : ℕ) → curve_of_profile (longer plan car) k ≡ curve_of_profile plan k
  unfolding curve_of_profile
  same_curve k =
      rw same_profiles (cond_same (ltb k (profile_count plan)) [] (λ e. rw (profile-block k (ltb-true k (profile_count plan) e))))

  pub same_battery : (k : ℕ) → battery_of (longer plan car) k ≡ battery_of plan k
  unfolding battery_of
  same_battery k =
      rw same_profiles (cond_same (ltb k (profile_count plan)) no_battery (λ e. rw (profile-block k (ltb-true k (profile_count plan) e))))

  same_id : (k : ℕ) → 1 ≤ k → 512 * k + 512 ≤ length plan → id_at (longer plan car) k ≡ id_at plan k
  unfolding id_at
  same_id k a b =
      rw add-zero at
      (sym (block_read 4 (longer plan car) k 0 (omega arith)) ∙ ap (λ (l : List ℕ). le_at 4 l 0) (same_block k a b) ∙ block_read 4 plan k 0 (omega arith))

  pub same_index : (id : ℕ) → profile_index (longer plan car) id ≡ profile_index plan id
  unfolding profile_index with_id
  same_index id =
      rw same_profiles
      (ap (λ (k : ℕ). k - 1) (first_same _ _ 1 (1 + profile_count plan - 1) (λ j a b. rw (same_id j a (omega (arith, c.blocks))))))

  -- ---- the chargers

  -- what goes by a charger's block
  by_charger : {A : Type 0} (f : List ℕ → A)
      → each (λ i. f (charger_block (longer plan car) i)) 0 (charger_count (longer plan car)) ≡ each (λ i. f (charger_block plan i)) 0 (charger_count plan)
  by_charger f = rw same_chargers (each_same _ _ 0 (charger_count plan) (λ i a b. ap f (charger-block i (omega arith))))

  pub same_charger_list : chargers_of (longer plan car) ≡ chargers_of plan
  unfolding chargers_of
  same_charger_list = by_charger charger_of

  pub same_rows : connector_rows (longer plan car) ≡ connector_rows plan
  unfolding connector_rows
  same_rows = by_charger row_of_charger

  -- ---- the vehicles

  pub same_vehicle : (v : ℕ) → v < vehicle_count plan → vehicle_in (longer plan car) v ≡ vehicle_in plan v
  unfolding vehicle_in
  same_vehicle v h = rw (vehicle-block v h, same_index)

  module _ (one : length car ≡ 512) where
    car-vehicle : vehicle_in (longer plan car) (vehicle_count plan) ≡ car_of plan car
    unfolding vehicle_in
    car-vehicle = rw (car-block one, same_index)

    pub car-behind : vehicles_of (longer plan car) ≡ vehicles_of plan ++ (car_of plan car ∷ [])
    unfolding vehicles_of
    car-behind =
        let old = vehicle_count plan in
        let same = each_same (vehicle_in (longer plan car)) (vehicle_in plan) 0 old (λ v a b. same_vehicle v (omega arith)) in
        rw (one_more, add-one, each_suc, same, zero-add, car-vehicle)

    -- all that the engines read
    pub longer_read : read_plan (longer plan car) ≡ with_vehicle (car_of plan car) (read_plan plan)
    longer_read = λ i. record {
      limit = same_limit i;
      curve = λ k. same_curve k i;
      battery = λ k. same_battery k i;
      chargers = same_charger_list i;
      connectors = same_rows i;
      vehicles = car-behind i;
      queue_places = same_queue_places i;
    }

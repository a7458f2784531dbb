-- Every float that is read of a plan whose blocks pass their check is within its limits. Assumes nothing.
use mathlib.Core.Path.{◌≡◌, refl}
use mathlib.Core.Bool.{Bool, true, false, ◌&&◌, ◌||◌, false≢true}
use mathlib.Core.List.{List}
use mathlib.Core.Logic.{◌⊎◌, inl, inr}
use Prim.Native.Nat.{ℕ, ◌+◌, ◌*◌, ◌<◌}
use native.Mathlib.Nat.{zero-add}
use native.Mathlib.Omega.{arith}
use borrow.Author.Tests.{lt-ltb}
use lib.Dec.{eqb}
use lib.Ieee.{binary64, of_bits, eq}
use Rattle.curve.specs.F64.{ratio, in_range}
use Rattle.curve.specs.Curve.{origin}
use Rattle.curve.specs.Limits.{Within, Soc, Power, Battery, Held}
use Rattle.curve.proofs.float.Limits.{from_bits, each_held}
use Rattle.charger.specs.Leads.{NoCap, CapWithin, ChargerWithin}
use Rattle.charger.specs.Lists.{All, none, also}
use Rattle.charger.specs.declared.vehicle.Vehicle.{Vehicle}
use Rattle.plan.specs.Bytes.{le_at}
use Rattle.plan.specs.Blocks.{block}
use Rattle.plan.specs.Fields.{f64_at, cap_ok, point_count, point_ok, zeros}
use Rattle.plan.specs.Places.{profile_count, charger_count, vehicle_count, profile_block, charger_block, vehicle_block}
use Rattle.plan.specs.Plan.{check_blocks}
use Rattle.files.specs.Read.{point_at, points_of, battery_of, charger_of, chargers_of, vehicle_of, vehicle_in, vehicles_of}
use Rattle.charger.proofs.Lists.{and_true}
use Rattle.plan.proofs.fields.Laws.{zeros_hold}
use Rattle.plan.proofs.SearchLaws.{every_at, length-each, each_at, all_each}
use Rattle.plan.proofs.blocks.Laws.{block_read}
use Rattle.files.proofs.Accepted.{vehicle_tests_lem, charger_tests_lem, profile_tests_lem, header_tests_lem}
use Rattle.std.specs.Prelude.{Ok}

pub record VehicleWithin (x : Vehicle) : Type 0 where
  pub start : Soc x.start
  pub target : Soc x.target
  pub idle : Within (ratio 0 1) (ratio 604800 1) x.idle.0

zero_bits : NoCap (record { 0 = of_bits binary64 0 })
unfolding of_bits ratio eq
zero_bits = refl

-- the test of a lead's cap: none, or one within its limits
cap_within : (b : List ℕ) (at : ℕ) → cap_ok b at ≡ true → CapWithin (record { 0 = f64_at b at })
unfolding cap_ok
cap_within b at h = go (zeros b at (at + 8)) refl
  where
    go : (none : Bool) → zeros b at (at + 8) ≡ none → CapWithin (record { 0 = f64_at b at })
    go true e = inl (rw (zeros_hold b at 8 e) zero_bits)
    go false e = inr (from_bits (le_at 8 b at) (ratio 1 1) (ratio 4096 1) (rw e at h))

-- the test of a site limit, where the limit is there
present : (n : ℕ) (r z : Bool) → (n ≡ 1) ⊎ (n ≡ 2) → ((eqb n 1 || eqb n 2) && r || eqb n 0 && z) ≡ true → r ≡ true
present n true z e h = refl
present n false z (inl e) h = absurd (false≢true (rw e at h))
present n false z (inr e) h = absurd (false≢true (rw e at h))

module _ (plan : List ℕ) (fine : check_blocks plan ≡ Ok tt) where
  pub vehicles-within : All VehicleWithin (vehicles_of plan)
  unfolding vehicles_of vehicle_in vehicle_of
  vehicles-within = all_each (vehicle_in plan) 0 (vehicle_count plan) (λ v a b.
      let block = vehicle_block plan v in
      let test = vehicle_tests_lem plan fine v (omega arith) in
      record {
        start = from_bits (le_at 8 block 16) (ratio 0 1) (ratio 1 1) (test 1);
        target = from_bits (le_at 8 block 24) (ratio 0 1) (ratio 1 1) (test 2);
        idle = from_bits (le_at 8 block 32) (ratio 0 1) (ratio 604800 1) (test 3);
      })

  pub chargers_within : All ChargerWithin (chargers_of plan)
  unfolding chargers_of
  chargers_within = all_each (λ c. charger_of (charger_block plan c)) 0 (charger_count plan) (λ c a b.
      let block = charger_block plan c in
      let test = charger_tests_lem plan fine c (omega arith) in
      record {
        power = from_bits (le_at 8 block 16) (ratio 1 8) (ratio 1024 1) (test 1);
        current = from_bits (le_at 8 block 24) (ratio 1 1) (ratio 4096 1) (test 2);
        voltage = from_bits (le_at 8 block 32) (ratio 1 1) (ratio 4096 1) (test 3);
        caps =
            also (cap_within block 40 (test 4)) (also (cap_within block 48 (test 5)) (also (cap_within block 56 (test 6))
            (also (cap_within block 64 (test 7)) (also (cap_within block 72 (test 8)) none))));
      })

  pub battery_within : (k : ℕ) → k < profile_count plan → Battery (battery_of plan k).0
  unfolding battery_of
  battery_within k h = rw (lt-ltb k (profile_count plan) h) (from_bits (le_at 8 (profile_block plan k) 8) (ratio 1 1) (ratio 1024 1) (profile_tests_lem plan fine k h 2))

  point-within : (k i : ℕ) → k < profile_count plan → i < point_count (profile_block plan k)
      → Soc (point_at (profile_block plan k) i).soc × Power (point_at (profile_block plan k) i).power.0
  unfolding point_ok
  point-within k i h l =
      let b = profile_block plan k in
      let s = le_at 8 b (16 + 16 * i) in
      let p = le_at 8 b (24 + 16 * i) in
      let two = and_true (in_range s (ratio 0 1) (ratio 1 1)) (in_range p (ratio 1 8) (ratio 1024 1)) (every_at (point_ok b) 0 (point_count b) (profile_tests_lem plan fine k h 3) i (omega arith) (omega arith)) in
      (from_bits s (ratio 0 1) (ratio 1 1) two.0, from_bits p (ratio 1 8) (ratio 1024 1) two.1)

  pub points-within : (k : ℕ) → k < profile_count plan → Held (points_of (profile_block plan k))
  unfolding points_of
  points-within k h =
      let b = profile_block plan k in
      each_held (points_of b) (λ i l.
      let inside : i < point_count b = rw (length-each (point_at b) 0 (point_count b)) at l in
      rw (each_at (point_at b) 0 (point_count b) i origin inside, zero-add) (point-within k i h inside))

  -- that of bytes 16 to 23, where byte 12 says that there is one
  pub limit_within : (le_at 1 plan 12 ≡ 1) ⊎ (le_at 1 plan 12 ≡ 2) → Within (ratio 1 8) (ratio 65536 1) (f64_at plan 16)
  limit_within mode =
      let b = block plan 0 in
      let flag : le_at 1 b 12 ≡ le_at 1 plan 12 = block_read 1 plan 0 12 (omega arith) in
      let bits : le_at 8 b 16 ≡ le_at 8 plan 16 = block_read 8 plan 0 16 (omega arith) in
      let test : in_range (le_at 8 b 16) (ratio 1 8) (ratio 65536 1) ≡ true =
      present (le_at 1 b 12) (in_range (le_at 8 b 16) (ratio 1 8) (ratio 65536 1)) (zeros b 16 24) (rw flag mode) (header_tests_lem plan fine 1) in
      rw (← bits) (from_bits (le_at 8 b 16) (ratio 1 8) (ratio 65536 1) test)

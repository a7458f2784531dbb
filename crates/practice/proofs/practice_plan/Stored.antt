-- The practice plan as it is stored, part by part. Assumes nothing.
use Rattle.std.proofs.Common.{◌≡◌, ℕ, ◌+◌, ◌-◌, ◌≤◌, List, ◌++◌, length, take, drop, append_assoc, arith, length-append}
use lib.Ieee.{Float, binary64, to_bits}
use lib.Seq.{sets}
use Rattle.plan.specs.Bytes.{bytes, pieces, stretch}
use Rattle.plan.specs.Header.{header_counting}
use Rattle.plan.specs.Places.{start_of, vehicle_block}
use Rattle.plan.specs.declared.places.Kind.TheVariants.{Vehicle}
use Rattle.plan.specs.Blocks.{check_of, sealed}
use Rattle.plan.proofs.bytes.Laws.{sets_behind, length-bytes, length-stretch}
use Rattle.plan.proofs.blocks.Laws.{put_sealed, length-sealed}
use Rattle.plan.proofs.header.Laws.{length_header}
use Rattle.practice.specs.PracticePlan.{car_bytes, car_block, cars_at, practice_plan}

module _ (vehicle : List ℕ) (long : length vehicle ≡ 512) where
  pub length-car : (id : ℕ) (start target : Float) (arrival : ℕ) → length (car_bytes vehicle id start target arrival) ≡ 508
  unfolding car_bytes
  length-car id start target arrival =
      let a = length-stretch vehicle 4 16 (omega arith) in
      let b = length-stretch vehicle 32 40 (omega arith) in
      let c = length-stretch vehicle 48 508 (omega arith) in
      simp (length-append, length-bytes, a, b, c)

  pub length-car_block : (seed place i : ℕ) → length (car_block vehicle seed place i) ≡ 512
  unfolding car_block
  length-car_block seed place i = length-sealed _ _ (length-car _ _ _ _)

  -- a car's block, in its parts
  pub car_stored : (s a b c d e f g r : List ℕ) (at place id : ℕ) (start target : Float) (arrival : ℕ) → at + 512 ≤ length s
      → a ≡ sets s at (bytes 4 id) → b ≡ sets a (at + 4) (stretch vehicle 4 16)
      → c ≡ sets b (at + 16) (bytes 8 (to_bits binary64 start)) → d ≡ sets c (at + 24) (bytes 8 (to_bits binary64 target))
      → e ≡ sets d (at + 32) (stretch vehicle 32 40) → f ≡ sets e (at + 40) (bytes 8 arrival) → g ≡ sets f (at + 48) (stretch vehicle 48 508)
      → r ≡ sets g (at + 508) (bytes 4 (check_of place (take 508 (drop at g))))
      → r ≡ sets s at (sealed place (car_bytes vehicle id start target arrival))
  unfolding car_bytes
  car_stored s a b c d e f g r at place id start target arrival room p q h k l m n o =
      let own = stretch vehicle 4 16 in
      let from = bytes 8 (to_bits binary64 start) in
      let to = bytes 8 (to_bits binary64 target) in
      let idle = stretch vehicle 32 40 in
      let when = bytes 8 arrival in
      let rest = stretch vehicle 48 508 in
      let l4 = length-stretch vehicle 4 16 (omega arith) in
      let l32 = length-stretch vehicle 32 40 (omega arith) in
      let to16 : b ≡ sets s at (bytes 4 id ++ own) = sets_behind s a b (bytes 4 id) own at (at + 4) p (rw length-bytes) q in
      let to24 : c ≡ sets s at ((bytes 4 id ++ own) ++ from) = sets_behind s b c (bytes 4 id ++ own) from at (at + 16) to16 (simp (length-append, length-bytes, l4)) h in
      let to32 : d ≡ sets s at (((bytes 4 id ++ own) ++ from) ++ to)
      = sets_behind s c d ((bytes 4 id ++ own) ++ from) to at (at + 24) to24 (simp (length-append, length-bytes, l4)) k in
      let to40 : e ≡ sets s at ((((bytes 4 id ++ own) ++ from) ++ to) ++ idle)
      = sets_behind s d e (((bytes 4 id ++ own) ++ from) ++ to) idle at (at + 32) to32 (simp (length-append, length-bytes, l4)) l in
      let to48 : f ≡ sets s at (((((bytes 4 id ++ own) ++ from) ++ to) ++ idle) ++ when)
      = sets_behind s e f ((((bytes 4 id ++ own) ++ from) ++ to) ++ idle) when at (at + 40) to40 (simp (length-append, length-bytes, l4, l32)) m in
      let all : g ≡ sets s at ((((((bytes 4 id ++ own) ++ from) ++ to) ++ idle) ++ when) ++ rest)
      = sets_behind s f g (((((bytes 4 id ++ own) ++ from) ++ to) ++ idle) ++ when) rest at (at + 48) to48 (simp (length-append, length-bytes, l4, l32)) n in
      put_sealed s g r at place _ (length-car id start target arrival) (omega arith) all o

-- the whole plan
pub plan_stored : (plan s a b d : List ℕ) (seed count first at : ℕ) → cars_at plan ≤ length plan → first ≡ start_of plan Vehicle → at ≡ cars_at plan
    → a ≡ sets s 0 (header_counting count plan) → b ≡ sets a 512 (stretch plan 512 at) → d ≡ sets b at (pieces (car_block (vehicle_block plan 0) seed (first + 1)) 0 count)
    → d ≡ sets s 0 (practice_plan plan seed count)
unfolding practice_plan
plan_stored plan s a b d seed count first at long e f p q r =
    let header = header_counting count plan in
    let kept = stretch plan 512 (cars_at plan) in
    let cars = pieces (car_block (vehicle_block plan 0) seed (start_of plan Vehicle + 1)) 0 count in
    let one : length header ≡ 512 = length_header count plan (omega arith) in
    let two : length kept ≡ cars_at plan - 512 = length-stretch plan 512 (cars_at plan) long in
    let front : b ≡ sets s 0 (header ++ kept) = sets_behind s a b header kept 0 512 p (omega (arith, one)) (rw f at q) in
    rw append_assoc at (sets_behind s b d (header ++ kept) cars 0 (cars_at plan) front (rw length-append (omega (arith, one, two))) (rw (e, f) at r))

-- The longer plan as it is stored: the header, the plan's other blocks, then the car. Assumes nothing.
use mathlib.Core.Path.{◌≡◌}
use mathlib.Core.List.{List, ◌++◌, append_assoc}
use Prim.Native.Nat.{ℕ, ◌+◌, ◌-◌, ◌≤◌}
use native.Mathlib.Omega.{arith}
use lib.ListN.{length, take, drop, length-append, length-drop}
use lib.Seq.{sets, take_all}
use Rattle.plan.specs.Header.{header_counting}
use Rattle.plan.specs.Places.{vehicle_count}
use Rattle.plan.proofs.bytes.Laws.{sets_behind}
use Rattle.plan.proofs.blocks.Laws.{take_sets}
use Rattle.plan.proofs.header.Laws.{length_header}
use Rattle.late_booking.specs.LongerPlan.{longer}
use Rattle.late_booking.proofs.longer.Bytes.{length-longer}

pub stored : (s plan car a b d : List ℕ) → 512 ≤ length plan → length plan + length car ≤ length s → a ≡ sets s 0 (header_counting (vehicle_count plan + 1) plan)
    → b ≡ sets a 512 (take (length plan - 512) (drop 512 plan)) → d ≡ sets b (length plan) car → take (length plan + length car) d ≡ longer plan car
unfolding longer
stored s plan car a b d long room p q r =
    let header = header_counting (vehicle_count plan + 1) plan in
    let one = length_header (vehicle_count plan + 1) plan long in
    let rest = length-drop 512 plan in
    let whole = take_all (length plan - 512) (drop 512 plan) (omega (arith, rest)) in
    let front : b ≡ sets s 0 (header ++ drop 512 plan) = sets_behind s a b header (drop 512 plan) 0 512 p (omega (arith, one)) (rw whole at q) in
    let all : d ≡ sets s 0 (header ++ (drop 512 plan ++ car))
    = rw append_assoc at (sets_behind s b d (header ++ drop 512 plan) car 0 (length plan) front (rw length-append (omega (arith, one, rest))) r) in
    rw all (take_sets s 0 (length plan + length car) (header ++ (drop 512 plan ++ car)) (length-longer plan car long) (omega (arith, room)))

-- `files::read::read_vehicles` meets its contract. Assumes nothing.
use Rattle.std.proofs.Common.{◌≡◌, ◌∙◌, arith, length}
use Rattle.plan.specs.Search.{each}
use Rattle.plan.proofs.SearchLaws.{length-each, push_step}
use Rattle.files.specs.Read.{vehicle_in, vehicles_of}
use Rattle.files.proofs.read.read_vehicles.Goals as goal

pub loop-v-init : goal.loop-v-init
unfolding each
loop-v-init c = (c.clear.ensures, c.read_queue_places-list.ensures)

pub push-requires : goal.push-requires
push-requires c =
    let size : length c.loop-v.list.vehicles.items ≡ c.loop-v.v = rw c.loop-v.invariant.0 (length-each _ 0 c.loop-v.v) in
    (omega arith, omega arith)

pub invariant_of-list-in-loop-v : goal.invariant_of-list-in-loop-v
invariant_of-list-in-loop-v c =
    let size : length c.loop-v.list.vehicles.items ≡ c.loop-v.v = rw c.loop-v.invariant.0 (length-each _ 0 c.loop-v.v) in
    record { few = omega (arith, c.push.ensures.len) }

pub loop-v-preserved : goal.loop-v-preserved
unfolding vehicle_in
loop-v-preserved c =
    (c.push.ensures.items ∙ push_step _ c.loop-v.list.vehicles.items c.loop-v.v _ c.loop-v.invariant.0 (c.read_vehicle-x.ensures ∙ rw (c.profile_index.ensures, c.u32_at.ensures, c.block_of-b.ensures)), c.loop-v.invariant.1)

pub returns-clause-vehicles : goal.returns-clause-vehicles
unfolding vehicles_of
returns-clause-vehicles c =
    let e : c.loop-v.v ≡ c.vehicle_count-v-end.result = omega arith in
    rw (← c.vehicle_count-v-end.ensures.0, ← e) c.loop-v.invariant.0

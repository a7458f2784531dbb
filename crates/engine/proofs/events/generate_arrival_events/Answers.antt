use Rattle.charger.specs.Code.Vehicles.{listed}
use Rattle.engine.proofs.events.Generated.{until_fits, room_first, order_first, made_next, made_start}
use Rattle.engine.proofs.events.generate_arrival_events.Goals as goal

pub loop-v-init : goal.loop-v-init
loop-v-init c = made_start (listed c.args.vehicles.now) c.new-events.ensures

pub overflow_add-x : goal.overflow_add-x
overflow_add-x c = until_fits (listed c.args.vehicles.now) _ c.deref-x-items.ensures c.loop-v.v _ c.loop-v-test.true c.requires

pub put-requires-in-loop-v-clause-room : goal.put-requires-in-loop-v-clause-room
put-requires-in-loop-v-clause-room c = room_first (listed c.args.vehicles.now) _ c.deref-x-items.ensures c.loop-v.v _ c.loop-v-test.true c.loop-v.invariant c.put.ensures

pub put-requires-in-loop-v-clause-order : goal.put-requires-in-loop-v-clause-order
put-requires-in-loop-v-clause-order c = order_first (listed c.args.vehicles.now) _ c.deref-x-items.ensures c.loop-v.v _ c.loop-v-test.true c.loop-v.invariant c.put.ensures

pub loop-v-preserved : goal.loop-v-preserved
loop-v-preserved c =
    made_next (listed c.args.vehicles.now) _ c.deref-x-items.ensures c.loop-v.v _ c.loop-v-test.true c.loop-v.invariant c.put.ensures c.put-in-loop-v.ensures

use Rattle.std.proofs.Common.{◌≡◌, ◌+◌, arith}
use Rattle.engine.specs.Code.Simulation.{plan_of}
use Rattle.engine.proofs.discrete.EventStates.{in_time, room_for}
use Rattle.engine.proofs.discrete.Ready.{ready, full, in_order, at_end, in_order_end, one_more}
use Rattle.engine.proofs.discrete.go_on.Goals as goal

pub handle-requires-clause-times : goal.handle-requires-clause-times
handle-requires-clause-times c =
    let n = c.args.state.now.simulation.events.handled + c.loop-i.i in
    in_time c.loop-i.state c.in-Some.e c.pop.new.self c.in-Some.ensures (ready (plan_of c.args.site.now) c.loop-i.state n c.loop-i.invariant c.args.site.now.vehicles.few c.requires.times)

pub handle-requires-clause-room : goal.handle-requires-clause-room
handle-requires-clause-room c =
    let n = c.args.state.now.simulation.events.handled + c.loop-i.i in
    room_for c.loop-i.state c.in-Some.e c.pop.new.self c.in-Some.ensures (ready (plan_of c.args.site.now) c.loop-i.state n c.loop-i.invariant c.args.site.now.vehicles.few c.requires.times)

pub handle-requires-clause-places : goal.handle-requires-clause-places
handle-requires-clause-places c = full (plan_of c.args.site.now) c.loop-i.state (c.args.state.now.simulation.events.handled + c.loop-i.i) c.loop-i.invariant

pub loop-i-preserved : goal.loop-i-preserved
loop-i-preserved c =
    let n = c.args.state.now.simulation.events.handled + c.loop-i.i in
    let more : n + 1 ≡ c.args.state.now.simulation.events.handled + (c.loop-i.i + 1) = omega arith in
    rw (← more) (one_more (plan_of c.args.site.now) c.loop-i.state n c.loop-i.invariant c.in-Some.e c.pop.new.self c.in-Some.ensures c.handle.ensures)

pub returns-in-None-clause-same : goal.returns-in-None-clause-same
returns-in-None-clause-same c =
    at_end (plan_of c.args.site.now) c.loop-i.state (c.args.state.now.simulation.events.handled + c.loop-i.i) c.loop-i.invariant c.pop.new.self c.in-None.ensures
    (c.args.state.now.simulation.events.handled + c.args.further) (omega arith)

pub returns-in-None-clause-order : goal.returns-in-None-clause-order
returns-in-None-clause-order c =
    in_order_end (plan_of c.args.site.now) c.loop-i.state (c.args.state.now.simulation.events.handled + c.loop-i.i) c.loop-i.invariant c.pop.new.self c.in-None.ensures

pub returns-clause-order : goal.returns-clause-order
returns-clause-order c = in_order (plan_of c.args.site.now) c.loop-i.state (c.args.state.now.simulation.events.handled + c.loop-i.i) c.loop-i.invariant

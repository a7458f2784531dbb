use Rattle.engine.proofs.plug_in.Handling.{fit_popped, no_unplug, comes}
use Rattle.engine.proofs.plug_in.State.handle_due.Goals as goal

pub handle_event-requires-clause-fit : goal.handle_event-requires-clause-fit
handle_event-requires-clause-fit c = fit_popped c.args.site.now c.loop-event.self c.pop_due.new.self c.in-Some.event c.loop-event.invariant.fit c.in-Some.ensures.1

pub handle_event-requires-clause-kind : goal.handle_event-requires-clause-kind
handle_event-requires-clause-kind c = no_unplug c.args.site.now c.loop-event.self c.pop_due.new.self c.in-Some.event c.loop-event.invariant.fit c.in-Some.ensures.1

pub handle_event-requires-clause-who : goal.handle_event-requires-clause-who
handle_event-requires-clause-who c = comes c.args.site.now c.loop-event.self c.pop_due.new.self c.in-Some.event c.loop-event.invariant.fit c.in-Some.ensures.1

-- `engine::plug_in::State::handle_due` meets its contract. The loop's invariant: what is due still comes to what was due at first.
use Rattle.std.proofs.Common.{◌≡◌, length}
use Rattle.engine.specs.Code.Simulation.{pending, plan_of}
use Rattle.engine.specs.Code.Steps.{held, Running}
use Rattle.engine.proofs.plug_in.Handling.{due_now}
use Rattle.engine.proofs.plug_in.State.handle_due.Given as goal

abbrev pub invariant-loop-event : goal.invariant-loop-event
invariant-loop-event l = record { fit : Running l.site 0 l.self; same : due_now (plan_of l.site) l.time (held l.self) ≡ due_now (plan_of l.site) l.time (held l.initial.self) }

abbrev pub decreases-loop-event : goal.decreases-loop-event
decreases-loop-event l = length (pending l.self.simulation.events)

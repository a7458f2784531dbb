-- `engine::discrete::go_on` meets its contract. The loop's invariant: after i turns the state is the model's after i events more. What an event asks follows from the
-- laws of a run. Assumes nothing.
use Rattle.std.proofs.Common.{◌≡◌, ◌+◌}
use Rattle.engine.specs.Discrete.{run}
use Rattle.engine.specs.Code.Simulation.{plan_of, model}
use Rattle.engine.proofs.discrete.go_on.Given as goal

abbrev pub invariant-loop-i : goal.invariant-loop-i
invariant-loop-i l = model l.state ≡ run (plan_of l.site) (l.initial.state.simulation.events.handled + l.i)

-- `engine::events::generate_arrival_events` meets its contract. The loop's invariant: the events of the vehicles before v stand in order. Assumes nothing.
use Rattle.charger.specs.Code.Vehicles.{listed}
use Rattle.engine.proofs.events.Generated.{Made}
use Rattle.engine.proofs.events.generate_arrival_events.Given as goal

abbrev pub invariant-loop-v : goal.invariant-loop-v
invariant-loop-v l = Made (listed l.vehicles) l.v l.events.items

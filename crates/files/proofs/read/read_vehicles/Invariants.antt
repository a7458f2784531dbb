-- `files::read::read_vehicles` meets its contract. Assumes nothing.
use Rattle.std.proofs.Common.{◌≡◌}
use Rattle.plan.specs.Search.{each}
use Rattle.files.specs.Read.{vehicle_in, queue_places_of}
use Rattle.files.proofs.read.read_vehicles.Given as goal

abbrev pub invariant-loop-v : goal.invariant-loop-v
invariant-loop-v l =
    (l.list.vehicles.items ≡ each (vehicle_in l.plan.file) 0 l.v) × (l.list.queue_places ≡ queue_places_of l.plan.file)

-- Rules. The plan of a late booking: the plan with the car last.
use Rattle.std.specs.Prelude.{ℕ, ◌+◌, List, ◌++◌, drop}
use Rattle.plan.specs.Header.{header_counting}
use Rattle.plan.specs.Places.{vehicle_count}

-- the header with V raised by one, the plan's other blocks, and the car's block behind
unfoldable pub longer : List ℕ → List ℕ → List ℕ
longer plan car = header_counting (vehicle_count plan + 1) plan ++ (drop 512 plan ++ car)

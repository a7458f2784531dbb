-- `files::read::store_points` meets its contract.
use Rattle.std.proofs.Common.{◌≡◌, take}
use Rattle.plan.specs.Search.{each}
use Rattle.files.specs.Read.{point_at}
use Rattle.files.proofs.read.store_points.Given as goal

abbrev pub invariant-loop-i : goal.invariant-loop-i
invariant-loop-i l = take l.i l.points ≡ each (point_at l.b) 0 l.i

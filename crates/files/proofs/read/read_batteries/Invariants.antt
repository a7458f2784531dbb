-- `files::read::read_batteries` meets its contract. Assumes nothing.
use Rattle.std.proofs.Common.{◌≡◌, length, take}
use Rattle.plan.specs.Search.{each}
use Rattle.files.specs.Read.{battery_of}
use Rattle.files.proofs.read.read_batteries.Given as goal

abbrev pub invariant-loop-k : goal.invariant-loop-k
invariant-loop-k l = (length l.all ≡ 16) × (take l.k l.all ≡ each (battery_of l.plan.file) 0 l.k)

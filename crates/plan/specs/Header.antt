-- Rules. The header of a plan with another number of vehicles, as requests 7 and 11 write it.
use Rattle.std.specs.Prelude.{ℕ, List, ◌++◌}
use Rattle.plan.specs.Bytes.{bytes, stretch}
use Rattle.plan.specs.Blocks.{sealed}

-- its bytes up to its check, with v for V, which stands at 8
unfoldable pub counting : ℕ → List ℕ → List ℕ
counting v plan = stretch plan 0 8 ++ (bytes 2 v ++ stretch plan 10 508)

-- the block, with its check made again
unfoldable pub header_counting : ℕ → List ℕ → List ℕ
header_counting v plan = sealed 1 (counting v plan)

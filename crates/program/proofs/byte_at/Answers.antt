-- `program::byte_at` meets its contract. Assumes nothing.
use Rattle.std.proofs.Common.{rules, arith}
use Rattle.plan.specs.Bytes.{le_at}
use Rattle.program.proofs.byte_at.Goals as goal

pub returns : goal.returns
unfolding le_at
returns c = (grind arith, search rules)

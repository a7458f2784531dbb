-- `program::book_length` meets its contract. Assumes nothing.
use native.Mathlib.Omega.{arith}
use Rattle.plan.specs.Bytes.{le_at}
use Rattle.program.proofs.book_length.Goals as goal

pub returns : goal.returns
unfolding le_at
returns c = omega arith

-- `program::number_at` meets its contract. Assumes nothing.
use Rattle.std.proofs.Common.{◌≡◌, suc, ◌+◌, arith}
use Rattle.plan.specs.Bytes.{le_at}
use Rattle.program.proofs.number_at.Goals as goal

pub returns : goal.returns
unfolding le_at
returns c =
    let k = c.args.k in
    let one : k + 1 ≡ suc k = omega arith in
    let two : k + 2 ≡ suc (suc k) = omega arith in
    let three : k + 3 ≡ suc (suc (suc k)) = omega arith in
    omega (arith, c.byte_at.ensures.0, rw one at c.byte_at-2.ensures.0, rw two at c.byte_at-3.ensures.0, rw three at c.byte_at-4.ensures.0)

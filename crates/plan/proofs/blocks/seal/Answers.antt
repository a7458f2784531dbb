-- `plan::blocks::seal` meets its contract. Assumes nothing.
use Rattle.std.proofs.Common.{◌≡◌, ◌+◌, ◌-◌, ◌∙◌, arith}
use Rattle.plan.proofs.blocks.seal.Goals as goal

pub returns : goal.returns
returns c =
    let e : c.args.at + 508 - c.args.at ≡ 508 = omega arith in
    c.put.ensures ∙ rw (c.check_of-sum.ensures, e)

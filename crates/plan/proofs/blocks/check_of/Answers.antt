use Rattle.std.proofs.Common.{◌≡◌, arith}
use Rattle.plan.specs.Blocks.{words, check_of}
use Rattle.plan.proofs.blocks.Laws.{check_step}
use Rattle.plan.proofs.blocks.check_of.Goals as goal

pub loop-i-init : goal.loop-i-init
unfolding words
loop-i-init c = omega arith

pub loop-i-preserved : goal.loop-i-preserved
loop-i-preserved c = rw c.u32_at-sum.ensures (check_step _ _ _ c.loop-i.i c.loop-i.invariant)

pub returns : goal.returns
unfolding check_of
returns c =
    let e : c.loop-i.i ≡ 127 = omega arith in
    rw e at c.loop-i.invariant

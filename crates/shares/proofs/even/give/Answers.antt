use Rattle.std.proofs.Common.{◌<◌, length, sym, ◌∙◌, arith}
use Rattle.shares.proofs.even.Loops.{given_more, given_end}
use Rattle.shares.proofs.even.give.Goals as goal

pub loop-w-preserved : goal.loop-w-preserved
loop-w-preserved c =
    let more : c.loop-w.w-index < length c.loop-w.watts = omega arith in
    rw (c.share_of.ensures, c.left_after-rest.ensures) (given_more c.loop-w.watts c.loop-w.w-index _ _ more ∙ c.loop-w.invariant)

pub returns : goal.returns
returns c =
    sym (given_end c.loop-w.watts c.loop-w.w-index (omega arith) _ _) ∙ c.loop-w.invariant

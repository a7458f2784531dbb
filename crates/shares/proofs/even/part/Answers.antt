use Rattle.std.proofs.Common.{◌<◌, length, arith}
use Rattle.shares.proofs.even.Loops.{under_past, under_more, above_past, above_more, under_end, above_end}
use Rattle.shares.proofs.even.part.Goals as goal
use Rattle.shares.proofs.even.part.Goals.{then-level-w, else-level-w}

pub overflow_add-under : goal.overflow_add-under
overflow_add-under c =
    omega (arith, under_more c.args.requests.now c.loop-w.w-index (omega arith) c.args.level c.if-level-w.false)

pub loop-w-preserved : goal.loop-w-preserved
loop-w-preserved c =
    let more : c.loop-w.w-index < length c.args.requests.now = omega arith in
    elim c.if-level-w.branch [
      | then-level-w w ↦ omega (arith, under_past c.args.requests.now c.loop-w.w-index more c.args.level w.if-level-w.true, above_more c.args.requests.now c.loop-w.w-index more c.args.level w.if-level-w.true)
      | else-level-w w ↦ omega (arith, under_more c.args.requests.now c.loop-w.w-index more c.args.level w.if-level-w.false, above_past c.args.requests.now c.loop-w.w-index more c.args.level w.if-level-w.false)
    ]

pub returns : goal.returns
returns c =
    omega (arith, under_end c.args.requests.now c.loop-w.w-index (omega arith) c.args.level, above_end c.args.requests.now c.loop-w.w-index (omega arith) c.args.level)

use Rattle.std.proofs.Common.{sym, arith, le-leb}
use borrow.Author.Tests.{lt-leb}
use Rattle.shares.specs.Shares.{total}
use Rattle.shares.proofs.even.Loops.{total_more, total_end}
use Rattle.shares.proofs.even.fit.Goals as goal

pub returns-then-left-w : goal.returns-then-left-w
returns-then-left-w c =
    sym (lt-leb (total c.args.requests.now) c.args.limit (omega (arith, total_more c.args.requests.now c.loop-w.w-index (omega arith))))

pub loop-w-preserved : goal.loop-w-preserved
loop-w-preserved c =
    omega (arith, total_more c.args.requests.now c.loop-w.w-index (omega arith))

pub returns : goal.returns
returns c =
    sym (le-leb (total c.args.requests.now) c.args.limit (omega (arith, total_end c.args.requests.now c.loop-w.w-index (omega arith))))

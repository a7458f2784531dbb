use Rattle.std.proofs.Common.{◌≡◌, ◌-◌, arith}
use Rattle.plan.specs.Bytes.{bytes}
use Rattle.plan.proofs.bytes.Laws.{put_step}
use Rattle.plan.proofs.bytes.put.Goals as goal

pub loop-i-preserved : goal.loop-i-preserved
loop-i-preserved c =
    put_step c.loop-i.s _ c.args.at c.args.n c.loop-i.rest c.loop-i.i (omega arith) c.loop-i.invariant

pub returns : goal.returns
unfolding bytes
returns c =
    let e : c.args.n - c.loop-i.i ≡ 0 = omega arith in
    rw e at c.loop-i.invariant

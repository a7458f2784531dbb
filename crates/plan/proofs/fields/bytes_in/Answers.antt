use Rattle.std.proofs.Common.{refl, arith}
use Rattle.plan.specs.Fields.{bytes_in}
use Rattle.plan.proofs.SearchLaws.{every-joined, every_known}
use Rattle.plan.proofs.fields.bytes_in.Invariants.{within}
use Rattle.plan.proofs.fields.bytes_in.Goals as goal

pub loop-k-init : goal.loop-k-init
unfolding bytes_in
loop-k-init c = refl

pub loop-k-preserved : goal.loop-k-preserved
loop-k-preserved c =
    every-joined (within c.args.b.now c.args.lo c.args.hi) c.loop-k.k c.args.to c.loop-k.ok (omega arith) c.loop-k.invariant

pub returns : goal.returns
returns c =
    every_known (within c.args.b.now c.args.lo c.args.hi) c.loop-k.k c.args.to c.loop-k.ok (omega arith) c.loop-k.invariant

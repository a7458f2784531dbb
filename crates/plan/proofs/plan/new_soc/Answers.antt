use Rattle.std.proofs.Common.{length, arith}
use native.Mathlib.Nat.{sub-zero}
use Rattle.plan.specs.Code.Socs.{new_among}
use Rattle.plan.proofs.SearchLaws.{every-joined, every_known}
use Rattle.plan.proofs.plan.new_soc.Invariants.{other}
use Rattle.plan.proofs.plan.new_soc.Goals as goal

pub loop-x-init : goal.loop-x-init
unfolding new_among
loop-x-init c = rw sub-zero

pub loop-x-preserved : goal.loop-x-preserved
loop-x-preserved c =
    let o = other c.args.before.now c.args.soc in
    every-joined o c.loop-x.x-index (length c.args.before.now) c.loop-x.new (omega arith) c.loop-x.invariant

pub returns : goal.returns
returns c =
    every_known (other c.args.before.now c.args.soc) c.loop-x.x-index (length c.args.before.now) c.loop-x.new (omega arith) c.loop-x.invariant

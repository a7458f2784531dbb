use Rattle.std.proofs.Common.{refl, arith}
use Rattle.plan.specs.Search.{each}
use Rattle.plan.proofs.SearchLaws.{fill_step}
use Rattle.files.specs.Read.{point_at}
use Rattle.files.proofs.read.store_points.Goals as goal

pub loop-i-init : goal.loop-i-init
unfolding each
loop-i-init c = refl

pub loop-i-preserved : goal.loop-i-preserved
loop-i-preserved c = fill_step (point_at c.args.b.now) c.loop-i.points c.loop-i.i _ (omega arith) c.loop-i.invariant (cc)

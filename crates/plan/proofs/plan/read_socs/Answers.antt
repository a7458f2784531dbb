use Rattle.std.proofs.Common.{refl, arith}
use Rattle.plan.specs.Search.{each}
use Rattle.plan.proofs.SearchLaws.{fill_step}
use Rattle.plan.proofs.plan.Laws.{soc_at}
use Rattle.plan.proofs.plan.read_socs.Goals as goal

pub loop-i-init : goal.loop-i-init
unfolding each
loop-i-init c = refl

pub loop-i-preserved : goal.loop-i-preserved
loop-i-preserved c =
    fill_step (soc_at c.args.b.now) c.loop-i.socs c.loop-i.i _ (omega arith) c.loop-i.invariant c.f64_at.ensures

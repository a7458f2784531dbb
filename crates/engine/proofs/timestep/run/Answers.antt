-- `engine::timestep::run` meets its contract.
use Rattle.std.proofs.Common.{sym, subst}
use Rattle.engine.specs.Events.{Ordered}
use Rattle.engine.specs.Timestep.{State}
use Rattle.engine.specs.Code.Simulation.{plan_of}
use Rattle.engine.proofs.timestep.InOrder.{ordered}
use Rattle.engine.proofs.timestep.LoopRun.{finishes}
use Rattle.engine.proofs.timestep.run.Goals as goal

pub returns-clause-order : goal.returns-clause-order
returns-clause-order c =
    let done = finishes c.args.rising.site.now c.args.allowance c.new.ensures.start c.rounds.ensures in
    subst (λ (m : State). Ordered m.site.pending) (sym done.state) (ordered (plan_of c.args.rising.site.now) c.args.allowance)

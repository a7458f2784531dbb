-- `files::stop::stop_steps` meets its contract. Assumes nothing.
use Rattle.std.proofs.Common.{ap}
use Rattle.engine.specs.Timestep as Timestep
use Rattle.files.proofs.stop.Laws.{stopped}
use Rattle.files.proofs.stop.stop_steps.Goals as goal

pub returns : goal.returns
returns c ran n done =
    let run = c.args.run.now in
    let same = done.state in
    stopped c.args.plan.now 1 _ run.time run.ended run.state.simulation c.args.book.now _ _
    record {
      used_same = ap (λ (m : Timestep.State). m.time) same;
      ended_same = done.is_ended;
      pending_same = ap (λ (m : Timestep.State). m.site.pending) same;
      queue_same = ap (λ (m : Timestep.State). m.site.queue) same;
      sessions_same = ap (λ (m : Timestep.State). m.site.sessions) same;
    }
    c.write_run.ensures.counts
    c.write_run.ensures.book
    c.write_run.ensures.back

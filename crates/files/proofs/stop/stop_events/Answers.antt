-- `files::stop::stop_events` meets its contract. Assumes nothing.
use Rattle.std.proofs.Common.{ap, ◌∙◌}
use Rattle.engine.specs.Discrete as Discrete
use Rattle.engine.specs.Discrete.{ended}
use Rattle.engine.proofs.timestep.Ends.{empty_length}
use Rattle.files.proofs.stop.Laws.{stopped}
use Rattle.files.proofs.stop.stop_events.Goals as goal

pub returns : goal.returns
returns c p n same =
    let s = c.args.state.now.simulation in
    stopped c.args.plan.now 0 _ _ _ s c.args.book.now _ _
    record {
      used_same = c.handled-used.ensures.value ∙ ap (λ (m : Discrete.State). m.handled) same;
      ended_same = c.is_empty-ended.ensures ∙ (empty_length s.events.pending ∙ ap ended same);
      pending_same = ap (λ (m : Discrete.State). m.site.pending) same;
      queue_same = ap (λ (m : Discrete.State). m.site.queue) same;
      sessions_same = ap (λ (m : Discrete.State). m.site.sessions) same;
    }
    c.write_run.ensures.counts
    c.write_run.ensures.book
    c.write_run.ensures.back

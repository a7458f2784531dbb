use Rattle.std.proofs.Common.{sym, ap, ◌∙◌}
use Rattle.engine.specs.Timestep.{closed_at}
use Rattle.engine.proofs.plug_in.Closings.{closed_more}
use Rattle.engine.proofs.plug_in.close_finished.Goals as goal

pub loop-s-preserved : goal.loop-s-preserved
loop-s-preserved c =
    c.close_at.ensures ∙ ap (closed_at c.args.time _) c.loop-s.invariant ∙ sym (closed_more c.args.time c.loop-s.s-index c.args.bank.now _ c.args.sessions.now c.loop-s-test.true)

use Rattle.std.proofs.Common.{arith}
use Rattle.engine.proofs.plug_in.Releases.{releasing_more}
use Rattle.engine.proofs.plug_in.State.release_finished.Goals as goal

pub loop-c-preserved : goal.loop-c-preserved
loop-c-preserved c = releasing_more c.args.site.now c.args.time c.args.self.now (omega (arith, c.len-c-end.ensures.value)) c.loop-c.invariant c.release_if_finished.ensures

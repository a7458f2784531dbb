-- `engine::plug_in::State::release_finished` meets its contract.
use Rattle.engine.proofs.plug_in.Releases.{Releasing}
use Rattle.engine.proofs.plug_in.State.release_finished.Given as goal

abbrev pub invariant-loop-c : goal.invariant-loop-c
invariant-loop-c l = Releasing l.site l.time l.c l.initial.self l.self

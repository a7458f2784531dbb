-- `engine::plug_in::close_finished` meets its contract. The loop's invariant: the sessions of the finished chargers so far are closed.
use Rattle.std.proofs.Common.{◌≡◌, take}
use Rattle.engine.specs.Timestep.{closed}
use Rattle.engine.proofs.plug_in.close_finished.Given as goal

abbrev pub invariant-loop-s : goal.invariant-loop-s
invariant-loop-s l = l.sessions ≡ closed l.time (take l.s-index l.bank) l.initial.sessions

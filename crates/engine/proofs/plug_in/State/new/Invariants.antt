-- `engine::plug_in::State::new` meets its contract. The loop's invariant: so many chargers have no car.
use Rattle.std.proofs.Common.{◌≡◌, replicate}
use Rattle.power.specs.ChargerState.{empty}
use Rattle.engine.proofs.plug_in.State.new.Given as goal

abbrev pub invariant-loop-c : goal.invariant-loop-c
invariant-loop-c l = l.bank.items ≡ replicate l._c empty

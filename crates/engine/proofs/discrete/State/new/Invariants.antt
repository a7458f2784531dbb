-- `engine::discrete::State::new` meets its contract. The loop's invariant: so many places are empty. Assumes nothing.
use Rattle.std.proofs.Common.{◌≡◌, replicate}
use Rattle.engine.specs.Discrete.{no_car}
use Rattle.engine.proofs.discrete.State.new.Given as goal

abbrev pub invariant-loop-c : goal.invariant-loop-c
invariant-loop-c l = l.places.items ≡ replicate l._c no_car

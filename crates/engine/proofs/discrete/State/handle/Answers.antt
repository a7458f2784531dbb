-- `engine::discrete::State::handle` meets its contract. Assumes nothing.
use Rattle.engine.proofs.discrete.State.handle.Goals as goal

pub returns-in-Arrival : goal.returns-in-Arrival
returns-in-Arrival c = rw c.in-Arrival.is (c.arrive.ensures c.args.e.charger)

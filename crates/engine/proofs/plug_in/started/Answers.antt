-- `engine::plug_in::started` meets its contract.
use lib.Ieee.{of_bits}
use Rattle.curve.specs.F64.{ratio}
use Rattle.engine.specs.Timestep.{open_session}
use Rattle.engine.proofs.plug_in.started.Goals as goal

pub returns : goal.returns
unfolding open_session ratio of_bits
returns c = rw c.saturating_sub.ensures

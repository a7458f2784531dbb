-- `engine::plug_in::plugged` meets its contract.
use Rattle.std.proofs.Common.{refl}
use lib.Ieee.{of_bits}
use Rattle.curve.specs.F64.{ratio}
use Rattle.engine.specs.Timestep.{plugged}
use Rattle.engine.proofs.plug_in.plugged.Goals as goal

pub returns : goal.returns
unfolding plugged ratio of_bits
returns c = refl

use mathlib.Core.Path.{refl}
use lib.Ieee.{of_bits}
use Rattle.curve.specs.F64.{ratio}
use Rattle.power.specs.ChargerState.{empty}
use Rattle.power.proofs.charger_state.ChargerState.clear.Goals as goal

pub returns : goal.returns
unfolding empty ratio of_bits
returns c = refl

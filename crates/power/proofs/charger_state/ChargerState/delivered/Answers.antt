use lib.Ieee.{of_bits, div}
use Rattle.curve.specs.F64.{ratio}
use Rattle.power.proofs.charger_state.ChargerState.delivered.Goals as goal

pub returns : goal.returns
unfolding ratio of_bits div
returns c = simp (c.max-self.ensures, c.charging_until-self.ensures)

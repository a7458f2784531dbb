use lib.Ieee.{of_bits}
use Rattle.curve.specs.F64.{ratio}
use Rattle.power.specs.ChargerState.{after_idling}
use Rattle.power.proofs.charger_state.ChargerState.after_idling.Goals as goal

pub returns : goal.returns
unfolding after_idling ratio of_bits
returns c = simp c.idle_until-self.ensures

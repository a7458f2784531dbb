use Rattle.power.specs.ChargerState.{after_charging}
use Rattle.power.proofs.charger_state.ChargerState.after_charging.Goals as goal

pub returns : goal.returns
unfolding after_charging
returns c = simp (c.delivered.ensures, c.min.ensures)

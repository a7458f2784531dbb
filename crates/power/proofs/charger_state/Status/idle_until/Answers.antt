use lib.Ieee.{of_bits}
use Rattle.curve.specs.F64.{ratio}
use Rattle.power.proofs.charger_state.Status.idle_until.Goals as goal

pub returns-then-left : goal.returns-then-left
unfolding of_bits ratio
returns-then-left c = simp c.if-left.true

pub returns-else-left : goal.returns-else-left
unfolding of_bits ratio
returns-else-left c = simp c.if-left.false

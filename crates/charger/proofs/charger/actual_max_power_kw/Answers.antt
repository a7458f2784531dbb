-- `charger::actual_max_power_kw` meets its contract: code and definition compute the same constant. Assumes nothing.
use lib.Ieee.{of_bits}
use Rattle.curve.specs.F64.{ratio}
use Rattle.charger.specs.Charger.{actual_max_power}
use Rattle.charger.proofs.charger.actual_max_power_kw.Goals as goal

pub returns : goal.returns
unfolding actual_max_power ratio of_bits
returns c = simp c.min.ensures

-- `charger::no_charger` meets its contract. Assumes nothing.
use mathlib.Core.Path.{refl}
use lib.Ieee.{of_bits}
use Rattle.curve.specs.F64.{ratio}
use Rattle.charger.specs.Charger.{no_charger}
use Rattle.charger.proofs.charger.no_charger.Goals as goal

pub returns : goal.returns
unfolding no_charger of_bits ratio
returns c = refl

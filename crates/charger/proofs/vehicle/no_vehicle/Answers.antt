-- `vehicle::no_vehicle` meets its contract. Assumes nothing.
use mathlib.Core.Path.{refl}
use lib.Ieee.{of_bits}
use Rattle.curve.specs.F64.{ratio}
use Rattle.charger.proofs.vehicle.no_vehicle.Goals as goal

pub returns : goal.returns
unfolding of_bits ratio
returns c = refl

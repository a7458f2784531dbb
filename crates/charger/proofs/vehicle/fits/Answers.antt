-- `vehicle::fits` meets its contract.
use Rattle.charger.specs.Vehicle.{compatible}
use Rattle.charger.proofs.vehicle.fits.Goals as goal

pub returns : goal.returns
unfolding compatible
returns c = rw (c.is_some.ensures, c.connector_of.ensures)

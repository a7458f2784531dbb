-- `charge_profile::power_at` meets its contract.
use Rattle.curve.specs.Curve.{power_at}
use Rattle.curve.proofs.charge_profile.power_at.Goals as goal

pub returns : goal.returns
unfolding power_at
returns c = rw (c.power_after.ensures, c.reached.ensures.found)

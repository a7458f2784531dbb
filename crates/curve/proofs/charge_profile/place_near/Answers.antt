-- `charge_profile::place_near` meets its contract.
use Rattle.curve.specs.Curve.{power_at}
use Rattle.curve.proofs.charge_profile.place_near.Goals as goal

pub returns : goal.returns
unfolding power_at
returns c = rw (c.power_after.ensures, c.reached_near-reached.ensures.found)

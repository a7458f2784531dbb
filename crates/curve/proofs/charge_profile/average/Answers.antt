-- `charge_profile::average` meets its contract.
use lib.Ieee.{of_bits}
use Rattle.curve.specs.F64.{ratio}
use Rattle.curve.proofs.charge_profile.average.Goals as goal

pub returns : goal.returns
unfolding of_bits ratio
returns c = simp (c.min-2.ensures, c.min.ensures)

-- `charge_profile::part` meets its contract.
use lib.Ieee.{of_bits}
use Rattle.curve.specs.F64.{ratio}
use Rattle.curve.proofs.charge_profile.part.Goals as goal

pub returns : goal.returns
unfolding of_bits ratio
returns c =
    simp (c.max.ensures, c.average-mean.ensures, c.onward-place.ensures, c.from_start-first.ensures, c.min-e.ensures, c.max-s.ensures)

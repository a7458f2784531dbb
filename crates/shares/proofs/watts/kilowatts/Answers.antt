-- `watts::kilowatts` meets its contract.
use lib.Ieee.{of_bits}
use Rattle.curve.specs.F64.{ratio}
use Rattle.shares.specs.Watts.{kilowatts_of}
use Rattle.shares.proofs.watts.kilowatts.Goals as goal

pub returns : goal.returns
unfolding kilowatts_of ratio of_bits
returns c = rw c.nearest_u64_to_f64.ensures

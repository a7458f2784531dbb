-- `plan::fields::limit_ok` meets its contract. Assumes nothing.
use lib.Ieee.{of_bits}
use Rattle.curve.specs.F64.{ratio}
use Rattle.plan.proofs.fields.limit_ok.Goals as goal

pub returns : goal.returns
unfolding of_bits ratio
returns c = cc

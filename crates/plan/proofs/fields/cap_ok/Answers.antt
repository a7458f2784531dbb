-- `plan::fields::cap_ok` meets its contract. Assumes nothing.
use lib.Ieee.{of_bits}
use Rattle.curve.specs.F64.{ratio}
use Rattle.plan.specs.Fields.{cap_ok}
use Rattle.plan.proofs.fields.cap_ok.Goals as goal

pub returns : goal.returns
unfolding cap_ok of_bits ratio
returns c = cc

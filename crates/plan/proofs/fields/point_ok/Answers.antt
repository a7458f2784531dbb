-- `plan::fields::point_ok` meets its contract. Assumes nothing.
use lib.Ieee.{of_bits}
use Rattle.curve.specs.F64.{ratio}
use Rattle.plan.specs.Fields.{point_ok}
use Rattle.plan.proofs.fields.point_ok.Goals as goal

pub returns : goal.returns
unfolding point_ok of_bits ratio
returns c = cc

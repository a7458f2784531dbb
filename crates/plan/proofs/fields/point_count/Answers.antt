-- `plan::fields::point_count` meets its contract. Assumes nothing.
use Rattle.std.proofs.Common.{arith}
use Rattle.plan.specs.Fields.{point_count}
use Rattle.plan.proofs.fields.point_count.Goals as goal

pub returns : goal.returns
unfolding point_count
returns c = omega arith

-- `plan::fields::profile_ok` meets its contract. Assumes nothing.
use lib.Ieee.{of_bits}
use Rattle.curve.specs.F64.{ratio}
use Rattle.plan.proofs.fields.profile_ok.Goals as goal

pub returns : goal.returns
unfolding of_bits ratio
returns c = rw (c.u16_at.ensures.0, c.zeros.ensures, c.f64_in.ensures, c.points_ok.ensures, c.zeros-2.ensures, c.point_count-n.ensures.0)

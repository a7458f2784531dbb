-- `plan::fields::vehicle_ok` meets its contract. Assumes nothing.
use lib.Ieee.{of_bits}
use Rattle.curve.specs.F64.{ratio}
use Rattle.plan.proofs.fields.vehicle_ok.Goals as goal

pub returns : goal.returns
unfolding of_bits ratio
returns c = rw (c.connectors_ok.ensures, c.f64_in.ensures, c.f64_in-2.ensures, c.f64_in-3.ensures, c.u64_at.ensures, c.u64_at-2.ensures, c.u16_at.ensures.0, c.zeros.ensures)

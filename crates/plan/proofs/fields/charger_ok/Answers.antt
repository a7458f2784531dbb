-- `plan::fields::charger_ok` meets its contract. Assumes nothing.
use lib.Ieee.{of_bits}
use Rattle.curve.specs.F64.{ratio}
use Rattle.plan.proofs.fields.charger_ok.Goals as goal

pub returns : goal.returns
unfolding of_bits ratio
returns c = rw (c.connectors_ok.ensures, c.f64_in.ensures, c.f64_in-2.ensures, c.f64_in-3.ensures, c.cap_ok.ensures, c.cap_ok-2.ensures, c.cap_ok-3.ensures, c.cap_ok-4.ensures, c.cap_ok-5.ensures, c.zeros.ensures)

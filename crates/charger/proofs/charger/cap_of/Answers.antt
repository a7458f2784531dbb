-- `charger::cap_of` meets its contract. A code past 5 is past the caps' end.
use Rattle.std.proofs.Common.{arith}
use lib.Ieee.{of_bits}
use Rattle.curve.specs.F64.{ratio}
use Rattle.charger.proofs.charger.Leads.{cap_at, no_lead, past_leads}
use Rattle.charger.proofs.charger.cap_of.Goals as goal

pub returns-in-1-to-5 : goal.returns-in-1-to-5
returns-in-1-to-5 c = cap_at c.args.charger c.args.code _ _ (omega arith) (omega arith) c.from.ensures

pub returns-in_default : goal.returns-in_default
unfolding of_bits ratio
returns-in_default c = no_lead c.args.charger c.args.code (omega arith)

pub returns-in_default-2 : goal.returns-in_default-2
unfolding of_bits ratio
returns-in_default-2 c = past_leads c.args.charger c.args.code (omega arith)

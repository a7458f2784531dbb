-- `charger::rated_power` meets its contract: the law of the caps holds of what is asked.
use Rattle.std.proofs.Common.{sym, ap, ◌∙◌}
use lib.Ieee.{of_bits}
use Rattle.curve.specs.F64.{ratio}
use Rattle.charger.specs.Charger.{power_by}
use Rattle.charger.proofs.charger.Leads.{with-law}
use Rattle.charger.proofs.charger.rated_power.Goals as goal

pub returns-in-Some : goal.returns-in-Some
returns-in-Some c =
    let e = c.actual_max_power_kw.ensures ∙ ap (power_by c.args.charger) (sym c.in-Some.is ∙ c.resolve_connector.ensures) in
    record { power = e; caps = with-law c.args.charger c.args.row c.args.vehicle _ e }

pub returns-in-None : goal.returns-in-None
unfolding ratio of_bits
returns-in-None c =
    let e = ap (power_by c.args.charger) (sym c.in-None.is ∙ c.resolve_connector.ensures) in
    record { power = e; caps = with-law c.args.charger c.args.row c.args.vehicle _ e }

-- `panel::events::plug_ins` meets its contract. Assumes nothing.
use Rattle.std.proofs.Common.{◌∙◌, rules, tests}
use Rattle.std.proofs.lemmas.Iterator.{YieldsList-from_slice}
use Rattle.std.proofs.lemmas.Iterator.Consumers.{count_from_yields_List, YieldsList-from_filter}
use Rattle.std.proofs.lemmas.List.Sums.{length-filter}
use Rattle.charger.proofs.Lists.{count_by_is}
use Rattle.engine.specs.Demand.{plugged_at}
use Rattle.panel.proofs.events.plug_ins.Goals as goal

pub returns : goal.returns
returns c =
    let test = plugged_at c.args.c in
    count_from_yields_List c.filter.result _ c.count.ensures.ran
    (YieldsList-from_filter _ test (YieldsList-from_slice c.args.sessions.now cc) c.filter.ensures.closure (λ x r q k. (search (rules, tests), search (rules, tests))))
    ∙ (length-filter test c.args.sessions.now ∙ count_by_is test c.args.sessions.now)

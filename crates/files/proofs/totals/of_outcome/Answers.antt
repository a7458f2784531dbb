-- `files::totals::of_outcome` meets its contract. Assumes nothing.
use Rattle.std.proofs.Common.{◌≡◌, ◌∙◌, refl, rules, tests}
use denote.Enum.Declared.{tag_of}
use Rattle.std.proofs.lemmas.Iterator.{YieldsList-from_slice}
use Rattle.std.proofs.lemmas.Iterator.Consumers.{count_from_yields_List, YieldsList-from_filter}
use Rattle.std.proofs.lemmas.List.Sums.{length-filter}
use Rattle.charger.proofs.Lists.{count_by_is}
use Rattle.engine.specs.Demand.{of_outcome, outcome_number}
use Rattle.engine.specs.declared.session.Outcome.{Outcome}
use Rattle.engine.specs.declared.session.Outcome.TheVariants.{Open, Charged, Reneged, Balked}
use Rattle.engine.specs.contracts.session.Outcome.{the_type}
use Rattle.files.proofs.totals.of_outcome.Goals as goal

-- the outcomes are declared in the order of their numbers, so `==` compares these
number_is : (o : Outcome) → tag_of the_type o ≡ outcome_number o
number_is Open = refl
number_is Charged = refl
number_is Reneged = refl
number_is Balked = refl

pub returns : goal.returns
returns c =
    let test = of_outcome (outcome_number c.args.outcome) in
    count_from_yields_List c.filter.result _ c.count.ensures.ran
    (YieldsList-from_filter _ test (YieldsList-from_slice c.args.sessions.now cc) c.filter.ensures.closure (λ x r q k. (search (rules, tests), rw (← number_is x.now.outcome, ← number_is c.args.outcome) (search (rules, tests)))))
    ∙ (length-filter test c.args.sessions.now ∙ count_by_is test c.args.sessions.now)

-- `files::totals::arrivals` meets its contract. Assumes nothing.
use Rattle.std.proofs.Common.{◌≡◌, ◌∙◌, refl, rules, tests, eqb, Bool, true, ◌&&◌, List, [], ◌∷◌, reverse, ap, sym, arith}
use denote.Enum.Declared.{tag_of}
use Rattle.std.proofs.lemmas.Iterator.{YieldsList-from_slice}
use Rattle.std.proofs.lemmas.Iterator.Consumers.{count_from_yields_List, YieldsList-from_filter}
use Rattle.std.proofs.lemmas.List.Sums.{length-filter}
use Rattle.std.proofs.lemmas.List.{reverse-append}
use Rattle.charger.specs.Lists.{count}
use Rattle.charger.proofs.Lists.{count_by_is, count-append}
use Rattle.engine.specs.Demand.{arrives, anyone, is_arrival}
use Rattle.engine.specs.declared.events.EventType.{EventType}
use Rattle.engine.specs.declared.events.EventType.TheVariants.{Arrival, Renege, Unplug}
use Rattle.engine.specs.contracts.events.EventType.{the_type}
use Rattle.files.proofs.totals.arrivals.Goals as goal

-- an arrival is one of anyone
arrival_is : (k : EventType) → eqb (tag_of the_type k) 0 ≡ (is_arrival k && true)
arrival_is Arrival = refl
arrival_is Renege = refl
arrival_is Unplug = refl

-- the order does not count
count-reverse : {A : Type 0} (test : A → Bool) (l : List A) → count test (reverse l) ≡ count test l
count-reverse test [] = refl
count-reverse test (x ∷ l) =
    ap (count test) (reverse-append (x ∷ []) l) ∙ omega (arith, count-append test (reverse l) (x ∷ []), count-reverse test l)

pub returns : goal.returns
returns c =
    let test = arrives anyone in
    let xs = c.as_slice.result.now in
    count_from_yields_List c.filter.result _ c.count.ensures.ran
    (YieldsList-from_filter _ test (YieldsList-from_slice xs cc) c.filter.ensures.closure (λ x r q k. (search (rules, tests), rw (← arrival_is x.now.kind) (search (rules, tests)))))
    ∙ (length-filter test xs ∙ (count_by_is test xs ∙ rw c.as_slice.ensures.items (sym (count-reverse test xs))))

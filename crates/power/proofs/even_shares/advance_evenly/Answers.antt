use mathlib.Core.Path.{◌≡◌, ◌∙◌}
use Rattle.std.proofs.Common.{rules}
use Rattle.arrayvec.proofs.ArrayVecLemmas.{items-with_items}
use Rattle.shares.specs.Shares.{shares}
use Rattle.power.specs.Code.Deal.{watts_at}
use Rattle.power.proofs.even_shares.Deals.{dealt_all, any_dealt_all}
use Rattle.power.proofs.even_shares.advance_evenly.Goals as goal
use Rattle.power.proofs.even_shares.advance_evenly.Goals.{After-bank-1}

-- what is dealt
dealt_shares : (c : After-bank-1) → c.as_slice.result.now ≡ shares (watts_at c.args.bank.now c.args.busy.now) c.args.limit
dealt_shares c =
    let whole = items-with_items c.ask-watts.result c.share.new.watts (search rules) in
    c.as_slice.ensures.value ∙ whole ∙ c.share.ensures.shared ∙ rw (c.as_mut_slice.ensures.value, c.ask-watts.ensures)

pub returns-clause-moved : goal.returns-clause-moved
returns-clause-moved c = (rw (dealt_shares c) at c.deal.ensures.moved) ∙ dealt_all c.requires.cars c.args.limit

pub returns-clause-any : goal.returns-clause-any
returns-clause-any c = rw (returns-clause-moved c) ((rw (dealt_shares c) at c.deal.ensures.any) ∙ any_dealt_all c.requires.cars c.args.limit)

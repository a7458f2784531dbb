use native.Mathlib.Omega.{arith}
use Rattle.power.proofs.power.Passes.{cars_within}
use Rattle.power.proofs.even_shares.Deals.{deal_more, deal_done}
use Rattle.power.proofs.even_shares.deal.Goals as goal

pub bounds-bank-busy : goal.bounds-bank-busy
bounds-bank-busy c = omega (arith, c.loop-k.invariant.size, cars_within _ _ c.loop-k.k c.requires.cars c.loop-k-test.true)

pub offset_bounds-bank-busy : goal.offset_bounds-bank-busy
offset_bounds-bank-busy c = omega (arith, bounds-bank-busy c)

pub loop-k-preserved : goal.loop-k-preserved
loop-k-preserved c =
    deal_more c.requires.places c.loop-k.invariant c.requires.cars c.loop-k-test.true _ (rw c.cap_of_share.ensures at c.move_on-any.ensures.moved) c.move_on-any.ensures.finished

pub returns : goal.returns
returns c =
    let done = deal_done c.requires.places (omega arith) c.loop-k.invariant in
    record { moved = done.0; any = done.1 }

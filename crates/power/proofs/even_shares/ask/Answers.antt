use native.Mathlib.Omega.{arith}
use Rattle.power.proofs.power.Passes.{cars_within}
use Rattle.power.proofs.power.Gaps.{cars_few}
use Rattle.power.proofs.even_shares.Deals.{asked_few, asked_more}
use Rattle.power.proofs.even_shares.ask.Goals as goal

pub bounds-bank-i : goal.bounds-bank-i
bounds-bank-i c = cars_within _ _ c.loop-i.i-index c.requires.cars c.loop-i-test.true

pub offset_bounds-bank-i : goal.offset_bounds-bank-i
offset_bounds-bank-i c = omega (arith, bounds-bank-i c)

pub push-requires : goal.push-requires
push-requires c = (omega arith, omega (arith, asked_few c.args.bank.now c.args.busy.now c.loop-i.i-index c.loop-i-test.true c.loop-i.invariant, cars_few _ _ c.requires.cars))

pub loop-i-preserved : goal.loop-i-preserved
loop-i-preserved c = rw c.push.ensures.items (asked_more _ _ _ c.loop-i-test.true c.loop-i.invariant c.requires.cars _ _ c.watts_asked.ensures)

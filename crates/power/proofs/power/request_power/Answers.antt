use mathlib.Core.Path.{◌∙◌}
use native.Mathlib.Omega.{arith}
use lib.Ieee.{of_bits}
use Rattle.curve.specs.F64.{ratio}
use Rattle.power.proofs.power.Passes.{cars_within, passing_more, passing_done, asked_all, summed_all}
use Rattle.power.proofs.power.request_power.Goals as goal

pub bounds-bank-i : goal.bounds-bank-i
bounds-bank-i c = omega (arith, c.loop-i.invariant.size, cars_within _ _ c.loop-i.i-index c.requires.cars c.loop-i-test.true)

pub offset_bounds-bank-i : goal.offset_bounds-bank-i
offset_bounds-bank-i c = omega (arith, bounds-bank-i c)

pub bounds-segments-i : goal.bounds-segments-i
bounds-segments-i c = omega (arith, cars_within _ _ c.loop-i.i-index c.requires.cars c.loop-i-test.true)

pub offset_bounds-segments-i : goal.offset_bounds-segments-i
offset_bounds-segments-i c = omega (arith, c.requires.few, cars_within _ _ c.loop-i.i-index c.requires.cars c.loop-i-test.true)

pub loop-i-preserved : goal.loop-i-preserved
loop-i-preserved c = passing_more _ _ c.requires.cars c.loop-i-test.true c.loop-i.invariant c.request-sum.ensures.asked c.request-sum.ensures.summed

pub returns-clause-asked : goal.returns-clause-asked
returns-clause-asked c =
    (passing_done _ (omega arith) c.loop-i.invariant).0 ∙ asked_all _ _ _ c.requires.cars

pub returns-clause-summed : goal.returns-clause-summed
unfolding of_bits ratio
returns-clause-summed c = rw (returns-clause-asked c) ((passing_done _ (omega arith) c.loop-i.invariant).1 ∙ summed_all _ _ _ c.requires.cars)

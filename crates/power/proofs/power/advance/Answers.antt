use mathlib.Core.Path.{◌∙◌}
use native.Mathlib.Omega.{arith}
use Rattle.power.proofs.power.Passes.{cars_within, passing_more, passing_done, moved_all, any_all, or_finished_with}
use Rattle.power.proofs.power.advance.Goals as goal

pub bounds-bank-i : goal.bounds-bank-i
bounds-bank-i c = omega (arith, c.loop-i.invariant.size, cars_within _ _ c.loop-i.i-index c.requires.cars c.loop-i-test.true)

pub offset_bounds-bank-i : goal.offset_bounds-bank-i
offset_bounds-bank-i c = omega (arith, bounds-bank-i c)

pub loop-i-preserved : goal.loop-i-preserved
loop-i-preserved c = passing_more _ _ c.requires.cars c.loop-i-test.true c.loop-i.invariant (rw c.cap_of-cap.ensures at c.move_on-any.ensures.moved) (or_finished_with _ _ c.move_on-any.new.s c.move_on-any.ensures.finished)

pub returns-clause-moved : goal.returns-clause-moved
returns-clause-moved c =
    (passing_done _ (omega arith) c.loop-i.invariant).0 ∙ moved_all _ _ _ c.requires.cars

pub returns-clause-any : goal.returns-clause-any
returns-clause-any c = rw (returns-clause-moved c) ((passing_done _ (omega arith) c.loop-i.invariant).1 ∙ any_all _ _ _ c.requires.cars)

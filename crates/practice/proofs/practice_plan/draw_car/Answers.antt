-- `practice::practice_plan::draw_car` meets its contract. Assumes nothing.
use Rattle.practice.specs.Xorshift.{draw}
use Rattle.practice.proofs.practice_plan.draw_car.Goals as goal

pub returns-clause-arrival : goal.returns-clause-arrival
unfolding draw
returns-clause-arrival c = rw (c.from.ensures, c.step-first.ensures.state)

pub returns-clause-start : goal.returns-clause-start
unfolding draw
returns-clause-start c = rw (c.in_1024ths.ensures, c.step-second.ensures.state, c.step-first.ensures.state)

pub returns-clause-target : goal.returns-clause-target
unfolding draw
returns-clause-target c = rw (c.in_1024ths-2.ensures, c.step-third.ensures.state, c.step-second.ensures.state, c.step-first.ensures.state)

pub returns-clause-state : goal.returns-clause-state
unfolding draw
returns-clause-state c = rw (c.step-third.ensures.state, c.step-second.ensures.state, c.step-first.ensures.state)

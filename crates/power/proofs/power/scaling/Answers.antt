use lib.Ieee.{of_bits}
use Rattle.curve.specs.F64.{ratio}
use Rattle.power.specs.Power.{scaling}
use Rattle.power.proofs.power.scaling.Goals as goal

pub returns-in-Unlimited : goal.returns-in-Unlimited
unfolding scaling ratio of_bits
returns-in-Unlimited c = simp c.in-Unlimited.is

pub returns-then-kw-sum : goal.returns-then-kw-sum
unfolding scaling ratio of_bits
returns-then-kw-sum c = simp (c.in-AtMost.is, c.if-kw-sum.true)

pub returns-else-kw-sum : goal.returns-else-kw-sum
unfolding scaling ratio of_bits
returns-else-kw-sum c = simp (c.in-AtMost.is, c.if-kw-sum.false)

pub returns-in-Shared : goal.returns-in-Shared
unfolding scaling ratio of_bits
returns-in-Shared c = simp c.in-Shared.is

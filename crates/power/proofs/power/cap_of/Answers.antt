use lib.Ieee.{of_bits}
use Rattle.curve.specs.F64.{ratio}
use Rattle.power.specs.Power.{cap_of}
use Rattle.power.proofs.power.cap_of.Goals as goal

pub returns-then-factor : goal.returns-then-factor
unfolding of_bits ratio cap_of
returns-then-factor c = simp (c.draw.ensures, c.if-factor.true)

pub returns : goal.returns
unfolding of_bits ratio cap_of
returns c = simp c.if-factor.false

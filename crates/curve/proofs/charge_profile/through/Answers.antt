-- `charge_profile::through` meets its contract: each arm returns what the tests pick.
use Rattle.curve.specs.Curve.{through}
use Rattle.curve.proofs.charge_profile.through.Goals as goal

pub returns-then-target-w : goal.returns-then-target-w
unfolding through
returns-then-target-w c = rw c.if-target-w.true c.requires

pub returns-then-segment-w : goal.returns-then-segment-w
unfolding through
returns-then-segment-w c = rw (c.if-target-w.false, c.if-segment-w.true) c.requires

pub returns : goal.returns
unfolding through
returns c = rw (c.if-target-w.false, c.if-segment-w.false) c.part.ensures

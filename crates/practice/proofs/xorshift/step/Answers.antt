-- `practice::xorshift::step` meets its contract. Assumes nothing.
use Rattle.std.proofs.Common.{refl}
use Rattle.practice.specs.Xorshift.{step}
use Rattle.practice.proofs.xorshift.step.Goals as goal

pub returns-clause-state : goal.returns-clause-state
unfolding step
returns-clause-state c = refl

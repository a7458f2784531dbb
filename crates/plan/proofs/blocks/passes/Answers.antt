-- `plan::blocks::passes` meets its contract. Assumes nothing.
use Rattle.plan.specs.Blocks.{passes}
use Rattle.plan.proofs.blocks.passes.Goals as goal

pub returns : goal.returns
unfolding passes
returns c = cc

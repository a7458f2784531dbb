-- `plan::blocks::whole_blocks` meets its contract. Assumes nothing.
use Rattle.std.proofs.Common.{refl}
use Rattle.plan.specs.Blocks.{whole_blocks}
use Rattle.plan.proofs.blocks.whole_blocks.Goals as goal

pub returns : goal.returns
unfolding whole_blocks
returns c = refl

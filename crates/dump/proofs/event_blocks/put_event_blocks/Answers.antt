-- `dump::event_blocks::put_event_blocks` meets its contract. Assumes nothing.
use Rattle.std.proofs.lemmas.List.{length-reverse}
use Rattle.dump.specs.EventBlocks.{event_block, event_blocks}
use Rattle.dump.proofs.event_blocks.put_event_blocks.Goals as goal

pub returns : goal.returns
unfolding event_block event_blocks
returns c = rw length-reverse c.put_blocks.ensures

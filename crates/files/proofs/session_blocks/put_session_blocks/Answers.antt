-- `files::session_blocks::put_session_blocks` meets its contract. Assumes nothing.
use Rattle.files.specs.SessionBlocks.{session_block, session_blocks}
use Rattle.files.proofs.session_blocks.put_session_blocks.Goals as goal

pub returns : goal.returns
unfolding session_block session_blocks
returns c = c.put_blocks.ensures

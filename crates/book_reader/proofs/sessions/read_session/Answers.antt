-- `book_reader::sessions::read_session` meets its contract. Assumes nothing.
use Rattle.files.specs.SessionBlocks.{session_of}
use Rattle.book_reader.proofs.sessions.read_session.Goals as goal

pub returns : goal.returns
unfolding session_of
returns c = cc

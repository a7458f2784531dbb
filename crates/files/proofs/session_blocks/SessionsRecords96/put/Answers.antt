-- `files::session_blocks::Sessions::put` meets its contract. Assumes nothing.
use Rattle.std.proofs.Common.{◌≡◌, get_or, rules}
use Rattle.files.specs.BookSession.{no_session}
use Rattle.files.specs.SessionBlocks.{slot}
use Rattle.files.proofs.session_blocks.Laws.{no_session_bytes}
use Rattle.files.proofs.session_blocks.SessionsRecords96.put.Goals as goal

pub returns-in-Some : goal.returns-in-Some
unfolding slot
returns-in-Some c =
    let read : get_or c.args.self.now.list.now c.args.k no_session ≡ c.in-Some.x.now = search rules in
    rw read c.put_session.ensures

pub returns-in-None : goal.returns-in-None
unfolding slot
returns-in-None c =
    let none : get_or c.args.self.now.list.now c.args.k no_session ≡ no_session = search rules in
    rw (none, no_session_bytes) c.put.ensures

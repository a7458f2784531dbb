-- `BookSessions::session_at` meets its contract. Assumes nothing.
use mathlib.Core.Path.{◌≡◌, sym, ◌∙◌}
use Rattle.std.proofs.Common.{rules}
use native.Mathlib.Omega.{arith}
use Rattle.files.specs.BookSession.{no_session}
use Rattle.files.proofs.SessionsIn.{in_book, past_last}
use Rattle.book_reader.proofs.sessions.BookSessions.session_at.Goals as goal

pub returns-then-self-k : goal.returns-then-self-k
unfolding no_session
returns-then-self-k c =
    let none : c.default.result ≡ no_session = search rules in
    none ∙ sym (past_last c.args.self.book.now c.args.k (omega (arith, c.args.self.room.count)))

pub returns : goal.returns
returns c = c.session_in.ensures ∙ sym (in_book c.args.self.book.now c.args.k (omega (arith, c.args.self.room.count)))

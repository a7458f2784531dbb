-- `BookSessions::read` meets its contract. Assumes nothing.
use mathlib.Core.Path.{◌≡◌}
use Rattle.plan.specs.Search.{each}
use Rattle.files.proofs.SessionsIn.{session_in}
use Rattle.book_reader.proofs.sessions.BookSessions.read.Given as goal

abbrev pub invariant-loop-k : goal.invariant-loop-k
invariant-loop-k l = l.all.items ≡ each (session_in l.self.book.now) 0 l.k

-- `BookSessions::sessions_ok` meets its contract. Assumes nothing.
use mathlib.Core.Path.{◌≡◌}
use Prim.Native.Nat.{◌-◌}
use Rattle.plan.specs.Search.{every}
use Rattle.book_reader.specs.Reader.{session_ok}
use Rattle.book_reader.proofs.sessions.BookSessions.sessions_ok.Given as goal

abbrev pub invariant-loop-k : goal.invariant-loop-k
invariant-loop-k l = every (session_ok l.self.book.now) l.k (l.self.count - l.k) ≡ every (session_ok l.self.book.now) 0 l.self.count

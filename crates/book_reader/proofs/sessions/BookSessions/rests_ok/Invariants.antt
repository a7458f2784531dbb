-- `BookSessions::rests_ok` meets its contract. Assumes nothing.
use mathlib.Core.Path.{◌≡◌}
use Prim.Native.Nat.{◌+◌, ◌-◌, ◌/◌}
use Rattle.plan.specs.Search.{every}
use Rattle.book_reader.specs.Reader.{rest_ok}
use Rattle.book_reader.proofs.sessions.BookSessions.rests_ok.Given as goal

abbrev pub invariant-loop-j : goal.invariant-loop-j
invariant-loop-j l = every (rest_ok l.self.book.now) l.j ((l.self.count + 4) / 5 - l.j) ≡ every (rest_ok l.self.book.now) 0 ((l.self.count + 4) / 5)

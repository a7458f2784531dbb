-- `book_reader::numbers::put_sessions` meets its contract. Assumes nothing.
use mathlib.Core.Path.{◌≡◌}
use Prim.Native.Nat.{◌+◌, ◌-◌, ◌*◌, ◌≤◌}
use lib.ListN.{length}
use lib.Seq.{sets}
use Rattle.plan.specs.Bytes.{pieces}
use Rattle.files.specs.Book.{sessions_in}
use Rattle.book_reader.specs.Reader.{numbers_at}
use Rattle.book_reader.proofs.numbers.put_sessions.Given as goal

abbrev pub invariant-loop-k : goal.invariant-loop-k
invariant-loop-k l = (l.k ≤ 64) × ((length l.out ≡ 1024) × (sets l.out (0 + 16 * l.k) (pieces (numbers_at (sessions_in l.sessions.book.now)) l.k (64 - l.k)) ≡ sets l.initial.out 0 (pieces (numbers_at (sessions_in l.sessions.book.now)) 0 64)))

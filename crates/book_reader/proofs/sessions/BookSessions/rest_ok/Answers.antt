-- `BookSessions::rest_ok` meets its contract. Assumes nothing.
use native.Mathlib.Omega.{arith}
use mathlib.Core.Path.{◌≡◌, ◌∙◌}
use mathlib.Core.List.{List}
use Prim.Native.Nat.{ℕ, ◌+◌, ◌-◌, ◌*◌, min}
use Rattle.plan.specs.Fields.{zeros}
use Rattle.files.specs.Book.{session_count}
use Rattle.book_reader.specs.Reader.{rest_ok}
use Rattle.book_reader.proofs.sessions.BookSessions.rest_ok.Goals as goal

-- behind the sessions that are there
behind : (b : List ℕ) (n j there : ℕ) → n ≡ session_count b → there ≡ min (n - 5 * j) 5
    → zeros b (512 + 512 * j + 96 * there) (512 + 512 * j + 508) ≡ rest_ok b j
unfolding rest_ok
behind b n j there c e = rw (e, c)

pub returns : goal.returns
returns c = c.zeros.ensures ∙ behind _ _ _ _ c.args.self.room.count (grind arith)

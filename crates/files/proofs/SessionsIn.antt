-- The sessions of a book by their index. Assumes nothing.
use mathlib.Core.Path.{◌≡◌, refl, ◌∙◌}
use mathlib.Core.List.{List}
use Prim.Native.Nat.{ℕ, zero, suc, ◌≤◌, ◌<◌}
use native.Mathlib.Nat.{zero-add}
use native.Mathlib.Omega.{arith}
use lib.ListN.{length, get_or, drop, get_or-eq_default}
use Rattle.plan.specs.Search.{each}
use Rattle.plan.proofs.SearchLaws.{length-each, each_at}
use Rattle.files.specs.BookSession.{no_session}
use Rattle.files.specs.SessionBlocks.{session_of, sessions_from}
use Rattle.files.specs.Book.{session_count, book_offset, sessions_in}
use Rattle.files.specs.declared.book_session.BookSession.{BookSession}

-- the session that stands at the index k
abbrev pub session_in : List ℕ → ℕ → BookSession
session_in b k = session_of (drop (book_offset k) b)

each_from : (b : List ℕ) (k m : ℕ) → sessions_from b 512 k m ≡ each (session_in b) k m
unfolding sessions_from each
each_from b k zero = refl
each_from b k (suc m) = rw (each_from b (suc k) m)

module _ (b : List ℕ) where
  pub sessions_each : sessions_in b ≡ each (session_in b) 0 (session_count b)
  unfolding sessions_in
  sessions_each = each_from b 0 (session_count b)

  pub session_count_lem : length (sessions_in b) ≡ session_count b
  session_count_lem = rw sessions_each (length-each (session_in b) 0 (session_count b))

  pub in_book : (k : ℕ) → k < session_count b → get_or (sessions_in b) k no_session ≡ session_in b k
  in_book k h = rw sessions_each (each_at (session_in b) 0 (session_count b) k no_session h ∙ rw zero-add)

  pub past_last : (k : ℕ) → session_count b ≤ k → get_or (sessions_in b) k no_session ≡ no_session
  past_last k h = get_or-eq_default (sessions_in b) no_session {n = k} (omega (arith, session_count_lem))

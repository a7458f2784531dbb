-- Rules. The book's bytes: header, then the blocks of its sessions, in the order pushed.
use Rattle.std.specs.Prelude.{ℕ, ◌+◌, ◌/◌, ◌<◌, ◌≡◌, true, List, [], ◌∷◌, ◌++◌, length, take, drop}
use Rattle.charger.specs.Lists.{All}
use Rattle.plan.specs.Bytes.{le_at, fields}
use Rattle.plan.specs.Blocks.{sealed, passes, block}
use Rattle.plan.specs.Search.{each}
use Rattle.files.specs.declared.book_session.BookSession.{BookSession}
use Rattle.files.specs.BookSession.{Fits}
use Rattle.files.specs.SessionBlocks.{session_blocks, session_offset, sessions_from}

-- the header's block: the letters B, O, O, K; session count, engine, ended and used
unfoldable pub header_block : ℕ → ℕ → ℕ → ℕ → List ℕ
header_block count engine ended used =
    sealed 1
    (fields
    (1 ∷ 66 ∷ 1 ∷ 79 ∷ 1 ∷ 79 ∷ 1 ∷ 75 ∷ 2 ∷ count ∷ 1 ∷ engine ∷ 1 ∷ ended ∷ 8 ∷ used ∷ 492 ∷ 0 ∷ []))

-- the whole book; the header is place 1
unfoldable pub book_bytes : ℕ → ℕ → ℕ → List BookSession → List ℕ
book_bytes engine ended used xs = header_block (length xs) engine ended used ++ session_blocks 2 xs

-- a buffer whose first bytes are those of a file; the bytes past them stay
unfoldable pub written : List ℕ → List ℕ → List ℕ
written file buffer = file ++ drop (length file) buffer

-- ---- the book read back

-- how many sessions a book says that it has
abbrev pub session_count : List ℕ → ℕ
session_count b = le_at 2 b 4

-- where the session at the index k begins: the sessions follow the header
abbrev pub book_offset : ℕ → ℕ
book_offset k = session_offset 512 k

-- the 96 bytes of the session at the index k
abbrev pub session_at : List ℕ → ℕ → List ℕ
session_at b k = take 96 (drop (book_offset k) b)

-- its outcome byte
abbrev pub outcome_at : List ℕ → ℕ → ℕ
outcome_at b k = le_at 1 b (book_offset k + 13)

-- the outcome bytes of all sessions of a book
abbrev pub outcomes_of : List ℕ → List ℕ
outcomes_of b = each (outcome_at b) 0 (session_count b)

-- the sessions of a book
unfoldable pub sessions_in : List ℕ → List BookSession
sessions_in b = sessions_from b 512 0 (session_count b)

-- a book gives back what was written: the header's count, engine, ended and used, and the sessions, none of whose fields was cut off;
-- every block passes its check
pub record ReadBack (engine ended used : ℕ) (xs : List BookSession) (book : List ℕ) : Type 0 where
  pub letters : take 4 book ≡ 66 ∷ 79 ∷ 79 ∷ 75 ∷ []
  pub count : session_count book ≡ length xs
  pub engine_byte : le_at 1 book 6 ≡ engine
  pub ended_byte : le_at 1 book 7 ≡ ended
  pub used_units : le_at 8 book 8 ≡ used
  pub sessions : sessions_in book ≡ xs
  pub whole : All Fits xs
  pub checks : (k : ℕ) → k < 1 + (length xs + 4) / 5 → passes (k + 1) (block book k) ≡ true

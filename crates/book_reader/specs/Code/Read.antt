-- Refinement: what the program asks of a book, and what it has read of one.
use Rattle.std.specs.Prelude.{ℕ, ◌+◌, ◌*◌, ◌/◌, ◌≤◌, ◌≡◌, List, length, Result, Ok, Err}
use Rattle.plan.specs.Bytes.{le_at}
use Rattle.files.specs.Book.{session_count}
use Rattle.book_reader.specs.Reader.{Reading, refused, contents}
use Rattle.plan.specs.declared.answer.Refusal.{Refusal}
use Rattle.book_reader.specs.declared.reader.BookHeader.{BookHeader}
use Rattle.book_reader.specs.declared.reader.ReadBook.{ReadBook}

-- a book that has the blocks of its n sessions
pub record Room (book : List ℕ) (n : ℕ) : Type 0 where
  pub count : n ≡ session_count book
  pub few : n ≤ 64
  pub blocks : 512 + 512 * ((n + 4) / 5) ≤ length book

-- what its header says
abbrev pub header_of : List ℕ → BookHeader
header_of b = record { count = session_count b; engine = le_at 1 b 6; ended = le_at 1 b 7; used = le_at 8 b 8 }

-- the header with the sessions
abbrev pub reading : Result ReadBook Refusal → Reading
reading (Err x) = refused x
reading (Ok r) =
    contents (record { engine = r.header.engine; ended = r.header.ended; used = r.header.used; sessions = r.sessions.items })

-- at most 64, and as many as the header says
abbrev pub Beside : Result ReadBook Refusal → Type 0
Beside (Err x) = Unit {0}
Beside (Ok r) = (r.header.count ≤ 64) × (length r.sessions.items ≡ r.header.count)

-- Rules. Request 5, reading the book back: when a book is refused, and what it gives back.
use Rattle.std.specs.Prelude.{ℕ, ◌+◌, ◌-◌, ◌*◌, ◌/◌, min, Bool, cond, not, ◌&&◌, List, [], ◌∷◌, leb, eqb, length, get_or, drop, replicate, Result, Ok, Err}
use Rattle.plan.specs.Answer.{refusal_numbers}
use Rattle.plan.specs.Bytes.{le_at, pieces}
use Rattle.plan.specs.Blocks.{passes, block, whole_blocks}
use Rattle.plan.specs.Fields.{zeros}
use Rattle.plan.specs.Search.{every, holds}
use Rattle.plan.specs.declared.answer.Refusal.{Refusal}
use Rattle.plan.specs.declared.answer.Refusal.TheVariants.{BookDamaged, BookAgainstRules}
use Rattle.files.specs.BookSession.{no_session}
use Rattle.files.specs.SessionBlocks.{session_of}
use Rattle.files.specs.Book.{session_count, book_offset, sessions_in}
use Rattle.files.specs.declared.book_session.BookSession.{BookSession}
use Rattle.book_reader.specs.SessionRules.{session_tests}

-- ---- 15: the length is 0, not a multiple of 512 or above 14 blocks, or a block's check is wrong

unfoldable pub damaged : List ℕ → Bool
damaged b = not (whole_blocks (length b) 14 && every (λ k. passes (k + 1) (block b k)) 0 (length b / 512))

-- ---- 16: a header or session field, a zero byte, or the block count for the session count against document 01's rules

-- the ASCII letters B, O, O, K
abbrev pub letters_ok : List ℕ → Bool
letters_ok b = eqb (get_or b 0 0) 66 && eqb (get_or b 1 0) 79 && eqb (get_or b 2 0) 79 && eqb (get_or b 3 0) 75

-- up to 64 sessions; engine and ended are 0 or 1; zero bytes up to the check; a header and five sessions a block
abbrev pub header_tests : List ℕ → List Bool
header_tests b =
    letters_ok b
    ∷ leb (session_count b) 64
    ∷ leb (le_at 1 b 6) 1
    ∷ leb (le_at 1 b 7) 1
    ∷ zeros b 16 508
    ∷ eqb (length b / 512) (1 + (session_count b + 4) / 5)
    ∷ []

-- the session at the index k
unfoldable pub session_ok : List ℕ → ℕ → Bool
session_ok b k = holds (session_tests (session_of (drop (book_offset k) b)))

-- the j-th block of sessions: zero bytes from the end of its last session up to its check
unfoldable pub rest_ok : List ℕ → ℕ → Bool
rest_ok b j = zeros b (512 + 512 * j + 96 * min (session_count b - 5 * j) 5) (512 + 512 * j + 508)

unfoldable pub against_rules : List ℕ → Bool
against_rules b =
    not (holds (header_tests b) && every (session_ok b) 0 (session_count b) && every (rest_ok b) 0 ((session_count b + 4) / 5))

-- ---- the answer: 15 over the whole book first

unfoldable pub test_answer : List ℕ → Result (Unit {0}) Refusal
test_answer b = cond (damaged b) (Err BookDamaged) (cond (against_rules b) (Err BookAgainstRules) (Ok tt))

-- ---- what comes back

pub record Contents : Type 0 where
  pub engine : ℕ
  pub ended : ℕ
  pub used : ℕ
  pub sessions : List BookSession

abbrev pub contents_of : List ℕ → Contents
contents_of b = record { engine = le_at 1 b 6; ended = le_at 1 b 7; used = le_at 8 b 8; sessions = sessions_in b }

-- a book is refused, or its contents come back
pub data Reading : Type 0 where
  refused : Refusal → Reading
  contents : Contents → Reading

abbrev pub if_fine : Result (Unit {0}) Refusal → Contents → Reading
if_fine (Ok u) c = contents c
if_fine (Err x) c = refused x

unfoldable pub read_book : List ℕ → Reading
read_book b = if_fine (test_answer b) (contents_of b)

-- ---- the same in numbers

-- the eleven numbers: a refusal's, or those of a check
abbrev pub reading_numbers : Reading → List ℕ
reading_numbers (refused x) = refusal_numbers x
reading_numbers (contents c) = replicate 11 0

-- count, engine, ended, used; a refused call changes nothing
abbrev pub header_after : Reading → List ℕ → List ℕ
header_after (refused x) old = old
header_after (contents c) old = length c.sessions ∷ c.engine ∷ c.ended ∷ c.used ∷ []

-- sixteen numbers a session, floats by their bits
unfoldable pub session_numbers : BookSession → List ℕ
session_numbers x =
    x.vehicle_id ∷ x.profile_id ∷ x.charger_id ∷ x.connector ∷ x.outcome ∷ x.fleet
    ∷ x.arrival ∷ x.plugin ∷ x.unplug ∷ x.wait
    ∷ x.duration ∷ x.idle ∷ x.peak ∷ x.energy ∷ x.start ∷ x.end ∷ []

-- those of the session at the index k, zeros past the last one
unfoldable pub numbers_at : List BookSession → ℕ → List ℕ
numbers_at xs k = session_numbers (get_or xs k no_session)

abbrev pub sessions_after : Reading → List ℕ → List ℕ
sessions_after (refused x) old = old
sessions_after (contents c) old = pieces (numbers_at c.sessions) 0 64

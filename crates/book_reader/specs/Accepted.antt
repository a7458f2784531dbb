-- Rules. Request 5, sentence by sentence: which books are accepted, and that their sessions come back bit for bit.
use Rattle.std.specs.Prelude.{ℕ, ◌^◌, ◌≤◌, ◌<◌, ◌≡◌, true, List, length, Ok}
use Rattle.charger.specs.Lists.{tick, All}
use Rattle.plan.specs.Search.{holds}
use Rattle.plan.specs.declared.answer.Totals.{Totals}
use Rattle.engine.specs.Demand.{Stop}
use Rattle.files.specs.Read.{read_plan}
use Rattle.files.specs.Check.{check_plan}
use Rattle.files.specs.BookSession.{book_sessions, Fits}
use Rattle.files.specs.Book.{book_bytes}
use Rattle.files.specs.Call.{stop_of, book_of}
use Rattle.files.specs.Demand.{ReadsBack}
use Rattle.book_reader.specs.SessionRules.{session_tests}
use Rattle.book_reader.specs.Reader.{Contents, Reading, refused, contents}

-- what the writer can write: a list of up to 64 sessions whose missing fields follow document 01
pub record ByRules (c : Contents) : Type 0 where
  pub engine : c.engine ≤ 1
  pub ended : c.ended ≤ 1
  pub used : c.used < 2 ^ 64
  pub few : length c.sessions ≤ 64
  pub widths : All Fits c.sessions
  pub fields : All (λ x. holds (session_tests x) ≡ true) c.sessions

-- and what it writes
abbrev pub bytes_of : Contents → List ℕ
bytes_of c = book_bytes c.engine c.ended c.used c.sessions

-- what is accepted is a book that the writer can write, and what comes back are the sessions that it was written for
abbrev pub OfWriter : List ℕ → Reading → Type 0
OfWriter book (refused x) = Unit {0}
OfWriter book (contents c) = ByRules c × (book ≡ bytes_of c)

-- every such book is accepted, and what it was written for comes back, bit for bit
abbrev pub ComesBack : List ℕ → Reading → Type 0
ComesBack book r = (c : Contents) → ByRules c → book ≡ bytes_of c → r ≡ contents c

-- two such lists with the same bytes are the same
abbrev pub Unique : List ℕ → Type 0
Unique book = (c d : Contents) → ByRules c → ByRules d → book ≡ bytes_of c → book ≡ bytes_of d → c ≡ d

-- the sessions of a run at its stop, with its engine, ended and used
abbrev pub ran_to : List ℕ → ℕ → Stop → Contents
ran_to plan engine s = record { engine = engine; ended = tick s.ended; used = s.used; sessions = book_sessions plan s.sessions }

-- the book that a run wrote, of which `run` promises `back`, is accepted, and gives the run's sessions
abbrev pub OfRuns : List ℕ → Reading → Type 0
OfRuns book r =
    (plan : List ℕ) (engine n : ℕ) (t : Totals) (buffer : List ℕ) → check_plan plan ≡ Ok tt → engine ≤ 1 → n < 2 ^ 64 → ReadsBack plan engine n buffer (Ok t)
    → let s = stop_of (read_plan plan) engine n in
    book ≡ book_of plan engine s → r ≡ contents (ran_to plan engine s)

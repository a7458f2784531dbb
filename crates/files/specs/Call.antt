-- Rules. What a call answers, and what a run leaves in the book.
use Rattle.std.specs.Prelude.{ℕ, zero, suc, cond, List, ltb, length, Result, Ok, Err}
use Rattle.charger.specs.Lists.{tick}
use Rattle.engine.specs.Plan.{Plan}
use Rattle.engine.specs.Demand.{Stop, by_events, by_steps}
use Rattle.files.specs.Read.{read_plan}
use Rattle.files.specs.Check.{then_check, check_plan}
use Rattle.files.specs.BookSession.{book_sessions}
use Rattle.files.specs.Book.{book_bytes, written}
use Rattle.plan.specs.declared.answer.Refusal.TheVariants.{EngineAbove, AllowanceAbove, BookUnder}
use Rattle.files.specs.Totals.{counted}
use Rattle.plan.specs.declared.answer.Totals.{Totals}
use Rattle.plan.specs.declared.answer.Refusal.{Refusal}

-- engine 0 events or 1 steps
abbrev pub stop_of : Plan → ℕ → ℕ → Stop
stop_of p zero n = by_events p n
stop_of p (suc e) n = by_steps p n

abbrev pub totals : Stop → Totals
totals s = counted s.used s.ended s.pending s.queue s.sessions

-- ---- the answer

-- a refused plan, or what comes of one that is fine
abbrev pub if_fine : {T : Type 0} → Result (Unit {0}) Refusal → Result T Refusal → Result T Refusal
if_fine a r = then_check a r

-- what a run answers, for a book of `room` bytes: 1 engine above 1, 2 allowance above 10,000,000, 3 book under 7,168 bytes, 4 to 12 by the plan
unfoldable pub answer_of : List ℕ → ℕ → ℕ → ℕ → Result Totals Refusal
answer_of plan engine allowance room =
    cond (ltb 1 engine) (Err EngineAbove)
    (cond (ltb 10000000 allowance) (Err AllowanceAbove)
    (cond (ltb room 7168) (Err BookUnder)
    (if_fine (check_plan plan) (Ok (totals (stop_of (read_plan plan) engine allowance))))))

-- the book of a run
unfoldable pub book_of : List ℕ → ℕ → Stop → List ℕ
book_of plan engine s = book_bytes engine (tick s.ended) s.used (book_sessions plan s.sessions)

-- a refused call leaves the book untouched
abbrev pub book_after : List ℕ → ℕ → ℕ → Result Totals Refusal → List ℕ → List ℕ
book_after plan engine allowance (Err x) book = book
book_after plan engine allowance (Ok t) book = written (book_of plan engine (stop_of (read_plan plan) engine allowance)) book

-- what a run leaves in a buffer
abbrev pub book_left : List ℕ → ℕ → ℕ → List ℕ → List ℕ
book_left plan engine allowance book = book_after plan engine allowance (answer_of plan engine allowance (length book)) book

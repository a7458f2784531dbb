-- Rules. Demands 2 and 3, sentence by sentence, of what a run of a plan answers and of the book that it leaves.
use Rattle.std.specs.Prelude.{◌≡◌, List, ℕ, ◌+◌, ◌≤◌, ◌<◌, eqb, length, Result, Ok, Err}
use Rattle.charger.specs.Lists.{tick, count}
use Rattle.engine.specs.Demand.{Stop, arrives}
use Rattle.engine.specs.Demand as E
use Rattle.plan.specs.Places.{vehicle_count}
use Rattle.files.specs.Read.{read_plan}
use Rattle.files.specs.BookSession.{vehicle_number, book_sessions, has_id}
use Rattle.files.specs.Book.{session_count, outcome_at, outcomes_of, session_at, sessions_in, ReadBack}
use Rattle.files.specs.Call.{stop_of, book_left}
use Rattle.plan.specs.declared.answer.Totals.{Totals}
use Rattle.plan.specs.declared.answer.Refusal.{Refusal}

-- what is said of a run that was not refused
abbrev pub OfRun : (Totals → Type 0) → Result Totals Refusal → Type 0
OfRun P (Err x) = Unit {0}
OfRun P (Ok t) = P t

module _ (plan : List ℕ) (engine n : ℕ) where
  -- the run by the paper's rules at its stop
  abbrev stop : Stop
  stop = stop_of (read_plan plan) engine n

  -- at most n units are used, and fewer only where the run has ended
  abbrev pub UnitsUsed : Result Totals Refusal → Type 0
  UnitsUsed = OfRun (λ t. E.UnitsUsed n t.used t.ended)

  -- a charger is free by its history just where the engine takes it for free
  abbrev pub FreeKnown : Result Totals Refusal → Type 0
  FreeKnown = OfRun (λ t. E.FreeKnown (read_plan plan) stop)

  -- at the stop no free charger fits any queued vehicle
  abbrev pub NoFreeFits : Result Totals Refusal → Type 0
  NoFreeFits = OfRun (λ t. E.NoFreeFits (read_plan plan) stop)

  -- each vehicle is yet to arrive, queued or in exactly one session, never in two
  abbrev pub OneSpot : Result Totals Refusal → Type 0
  OneSpot = OfRun (λ t. E.OneSpot (read_plan plan) stop)

  -- vehicles = yet to arrive + queued + open + charged + reneged + balked
  abbrev pub AddUp : Result Totals Refusal → Type 0
  AddUp = OfRun (λ t. E.AddUp (vehicle_count plan) t.yet_to_arrive t.queued t.still_open t.charged t.reneged t.balked)

  -- every wait is exact
  abbrev pub ExactWaits : Result Totals Refusal → Type 0
  ExactWaits = OfRun (λ t. E.ExactWaits (read_plan plan) stop)

  -- by events, at every stop: handled + pending = 2 × vehicles + charged
  abbrev pub Handled : Result Totals Refusal → Type 0
  Handled = OfRun (λ t. engine ≡ 0 → E.Handled (vehicle_count plan) t.used (length stop.pending) t.charged)

  -- by events 3 × vehicles units are enough to end; once ended, handled = 2 × vehicles + charged, and nobody is queued
  abbrev pub EventsEnd : Result Totals Refusal → Type 0
  EventsEnd = OfRun (λ t. engine ≡ 0 → E.EventsEnd (vehicle_count plan) n t.used t.ended t.charged t.queued)

  -- a run by steps that has ended has no open session
  abbrev pub StepsEnd : Result Totals Refusal → Type 0
  StepsEnd = OfRun (λ t. engine ≡ 1 → E.StepsEnd t.ended t.still_open)

  -- ---- and of the book that the run leaves

  module _ (book : List ℕ) where
    -- demand 2: the book read back gives the sessions of the run by the rules, and the header its count, engine, ended and used
    abbrev pub ReadsBack : Result Totals Refusal → Type 0
    ReadsBack = OfRun (λ t. ReadBack engine (tick t.ended) t.used (book_sessions plan stop.sessions) book)

    -- for each vehicle: yet to arrive + queued + the sessions in the book that have its id = 1
    abbrev pub OneById : Result Totals Refusal → Type 0
    OneById =
        OfRun
        (λ t. (v : ℕ) → v < vehicle_count plan
        → count (arrives (eqb v)) stop.pending + count (eqb v) stop.queue + count (has_id (vehicle_number plan v 0)) (sessions_in book) ≡ 1)

    -- open, charged, reneged and balked count the outcome bytes of the book
    abbrev pub CountsOfBook : Result Totals Refusal → Type 0
    CountsOfBook =
        OfRun
        (λ t. (t.still_open ≡ count (eqb 0) (outcomes_of book))
        × (t.charged ≡ count (eqb 1) (outcomes_of book))
        × (t.reneged ≡ count (eqb 2) (outcomes_of book))
        × (t.balked ≡ count (eqb 3) (outcomes_of book)))

    -- under a larger allowance, in whatever buffer: a session of outcome 1 to 3 stands at the same offset, byte for byte
    abbrev pub ClosedStay : Result Totals Refusal → Type 0
    ClosedStay =
        OfRun
        (λ t. (m : ℕ) → n ≤ m → m ≤ 10000000 → (buffer : List ℕ) → 7168 ≤ length buffer
        → (k : ℕ) → k < session_count book → 1 ≤ outcome_at book k → outcome_at book k ≤ 3
        → let second = book_left plan engine m buffer in
        (k < session_count second) × (session_at second k ≡ session_at book k))

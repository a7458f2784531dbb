-- What a state and its book tell is what its run comes to at its stop. Assumes nothing.
use Rattle.std.proofs.Common.{◌≡◌, ◌∙◌, ℕ, Bool, List}
use Rattle.charger.specs.Lists.{tick}
use Rattle.charger.specs.Code.Queue.{waiting}
use Rattle.engine.specs.declared.site.Simulation.{Simulation}
use Rattle.engine.specs.Code.Simulation.{pending, booked}
use Rattle.engine.specs.Demand.{Stop}
use Rattle.plan.specs.declared.answer.Totals.{Totals}
use Rattle.files.specs.Totals.{counted}
use Rattle.files.specs.BookSession.{book_sessions}
use Rattle.files.specs.Book.{book_bytes, written, ReadBack}
use Rattle.files.specs.Call.{book_of}
use Rattle.files.specs.Code.Running.{Stopped}

-- a simulation that used so many units stands where the run stops
pub record StandsAt (s : Stop) (used : ℕ) (ended : Bool) (x : Simulation) : Type 0 where
  pub used_same : used ≡ s.used
  pub ended_same : ended ≡ s.ended
  pub pending_same : pending x.events ≡ s.pending
  pub queue_same : waiting x.queue ≡ s.queue
  pub sessions_same : booked x.sessions ≡ s.sessions

-- its totals and its book are those of the stop
pub stopped : (plan : List ℕ) (engine : ℕ) (s : Stop) (used : ℕ) (ended : Bool) (x : Simulation) (old : List ℕ) (t : Totals) (new : List ℕ) → StandsAt s used ended x
    → t ≡ counted used ended (pending x.events) (waiting x.queue) (booked x.sessions)
    → new ≡ written (book_bytes engine (tick ended) used (book_sessions plan (booked x.sessions))) old
    → ReadBack engine (tick ended) used (book_sessions plan (booked x.sessions)) new → Stopped plan engine s old t new
unfolding book_of
stopped plan engine s used ended x old t new h counts book back =
    let u = h.used_same in
    let e = h.ended_same in
    let p = h.pending_same in
    let q = h.queue_same in
    let b = h.sessions_same in
    record {
      counted = counts ∙ (λ i. counted (u i) (e i) (p i) (q i) (b i));
      book = book ∙ (λ i. written (book_bytes engine (tick (e i)) (u i) (book_sessions plan (b i))) old);
      back = rw (← u, ← e, ← b) back;
    }

-- Refinement: the queue of events as the list of the pending ones, in the order in which they pop, and how many were handled before them.
use Rattle.std.specs.Prelude.{◌≡◌, ℕ, ◌+◌, List, [], ◌∷◌, Bool, true, false, cond, nat_le, Option, Some, MatchOption}
use Rattle.fixed_vec.specs.FixedVec.{Room}
use Rattle.engine.specs.declared.events.Event.{Event}

-- the room behind them is there for copies: no clause names it
pub record Queued : Type 0 where
  pub pending : List Event
  pub handled : ℕ
  pub room : Room Event

-- the first pending event is gone, and counts as handled; or none was pending
abbrev pub Pops : Queued → Queued → Option Event → Type 0
Pops q r popped =
    MatchOption popped ((q.pending ≡ []) × (r ≡ q)) (λ e. (q.pending ≡ e ∷ r.pending) × (r.handled ≡ q.handled + 1))

-- the first pending event is due
abbrev pub is_due : ℕ → List Event → Bool
is_due now [] = false
is_due now (e ∷ es) = nat_le e.time now

-- the time of the first pending event, or `last` where that is no later
abbrev pub next_time : ℕ → List Event → ℕ
next_time last [] = last
next_time last (e ∷ es) = cond (nat_le e.time last) e.time last

-- the first pending event is popped if it is due
abbrev pub PopsDue : ℕ → Queued → Queued → Option Event → Type 0
PopsDue now q r popped =
    MatchOption popped ((is_due now q.pending ≡ false) × (r ≡ q)) (λ e. (nat_le e.time now ≡ true) × Pops q r (Some e))

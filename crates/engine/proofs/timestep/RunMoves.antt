-- Demand 3 for a run by steps: a round is a sequence of a site's moves, so their laws hold of it.
use Rattle.std.proofs.Common.{◌≡◌, ℕ, zero, suc, ◌+◌, ◌<◌, ◌≤◌, Bool, true, false, cond, eqb, leb, List, [], ◌∷◌, length, sym, refl, inr, ⊎_elim, suc-add, zero-add, leb-true}
use Rattle.engine.specs.declared.events.Event.{Event}
use Rattle.engine.specs.declared.events.EventType.{EventType}
use Rattle.engine.specs.declared.events.EventType.TheVariants.{Arrival, Renege, Unplug}
use Rattle.charger.specs.First.{Found, nobody, found, first}
use Rattle.charger.proofs.Lists.{by_cond, by_test}
use Rattle.engine.specs.Demand.{Kept, sessions_with, yet_to_arrive}
use Rattle.engine.specs.Plan.{Plan, fits}
use Rattle.engine.specs.SiteState.{SiteState, below, balks, with_queue, with_pending, turned_away, start_charging, available, arrived, reneged, passed_on, handle, popped, initial, release}
use Rattle.engine.proofs.site.Moves.{progresses, Moves, none, then, moves_trans, released, pops}
use Rattle.engine.proofs.site.Laws.{Lawful, Settled, spots_in}
use Rattle.engine.proofs.site.Laws as L
use Rattle.power.specs.declared.charger_state.ChargerState.{ChargerState}
use Rattle.engine.specs.Timestep.{State, open_session, plugged, steps, due, powered, with_closed, finished, release_all, release_finished, round, ended, start, after, run}
use Rattle.engine.proofs.timestep.Held.{HeldBut, held_append, held_start, held_passed, held_released, held_closed, held_charged, progress-closed, progress-charged, nothing_held}

module _ (t : Plan) where
  abbrev F : Type 0
  F = SiteState ChargerState

  pub lawful : Lawful (steps t)
  unfolding open_session plugged
  lawful = record { vehicle = λ now v c. refl; charger = λ now v c. refl; occupied = λ now v c i. refl; arrivals = λ test now v c es. refl }

  -- ---- the events due

  pub pending_popped : (k : EventType) (now v c : ℕ) (f : F) → (handle t (steps t) k now v c f).pending ≡ f.pending
  unfolding start_charging
  pending_popped Arrival now v c f = go (first (available t (steps t) f v) (below (length t.chargers)))
    where
      away : (b : Bool) → (turned_away v f b).pending ≡ f.pending
      away true = refl
      away false = refl

      go : (x : Found) → (arrived t (steps t) now v f x).pending ≡ f.pending
      go nobody = away (balks t.vehicles t.queue_places v f.queue)
      go (found w rest) = refl
  pending_popped Renege now v c f = go (first (eqb v) f.queue)
    where
      go : (x : Found) → (reneged t (steps t) now f x).pending ≡ f.pending
      go nobody = refl
      go (found w rest) = refl
  pending_popped Unplug now v c f = go (first (λ w. fits t w c) f.queue)
    where
      go : (x : Found) → (passed_on t (steps t) now c f x).pending ≡ f.pending
      go nobody = refl
      go (found w rest) = refl

  held_popped : (k : EventType) (now v c : ℕ) (f : F) → HeldBut [] f → HeldBut [] (handle t (steps t) k now v c f)
  unfolding HeldBut
  held_popped Arrival now v c f h = go (first (available t (steps t) f v) (below (length t.chargers)))
    where
      away : (b : Bool) → HeldBut [] (turned_away v f b)
      away true = held_append [] f _ h
      away false = h

      go : (x : Found) → HeldBut [] (arrived t (steps t) now v f x)
      go nobody = away (balks t.vehicles t.queue_places v f.queue)
      go (found w rest) = held_start t now v w [] f h
  held_popped Renege now v c f h = go (first (eqb v) f.queue)
    where
      go : (x : Found) → HeldBut [] (reneged t (steps t) now f x)
      go nobody = h
      go (found w rest) = held_append [] (with_queue rest f) _ h
  held_popped Unplug now v c f h =
      held_passed t now c [] f (first (λ w. fits t w c) f.queue) (λ i o. ⊎_elim (λ (n : ⊥). absurd n) inr (h i o))

  pub record Reached (f h : F) : Type 0 where
    pub moves : Moves t (steps t) f h
    pub held : HeldBut [] h

  due_reached : (now : ℕ) (es : List Event) (f : F) → f.pending ≡ es → HeldBut [] f → Reached f (due t now es f)
  unfolding HeldBut
  due_reached now [] f l h = record { moves = none; held = h }
  due_reached now (e ∷ es) f l h =
      let g = popped t (steps t) e es f in
      go (leb e.time now)
      (due_reached now es g (pending_popped e.kind e.time e.vehicle e.charger (with_pending es f)) (held_popped e.kind e.time e.vehicle e.charger (with_pending es f) h))
    where
      go : (b : Bool) → Reached (popped t (steps t) e es f) (due t now es (popped t (steps t) e es f))
          → Reached f (cond b (due t now es (popped t (steps t) e es f)) f)
      go true r = record { moves = moves_trans t (steps t) (pops t (steps t) f e es l) r.moves; held = r.held }
      go false r = record { moves = none; held = h }

  released_moves : (now : ℕ) (cs : List ℕ) (f : F) → Moves t (steps t) f (release_all t now cs f)
  released_moves now [] f = none
  released_moves now (c ∷ cs) f =
      moves_trans t (steps t) (then none (released t (steps t) now c f)) (released_moves now cs (release t (steps t) now c f))

  -- ---- a round, and a run

  round-reached : (s : State) → HeldBut [] s.site → Reached s.site (round t s).site
  unfolding round
  round-reached s h =
      let now = s.time in
      let d = due_reached now s.site.pending s.site refl h in
      let f = powered t (due t now s.site.pending s.site) in
      let k = held_charged t _ d.held in
      record {
        moves =
            moves_trans t (steps t)
            (then (then d.moves (progresses (progress-charged t _))) (progresses (progress-closed t now f k)))
            (released_moves now (finished 0 f.places) (with_closed t now f));
        held = held_released t now (finished 0 f.places) (with_closed t now f) (held_closed t now f k);
      }

  pub after_reached : (n : ℕ) (s : State) → HeldBut [] s.site → Reached s.site (after t n s).site
  after_reached zero s h = record { moves = none; held = h }
  after_reached (suc n) s h =
      let r = round-reached s h in
      go (ended t s) (after_reached n (round t s) r.held) r.moves
    where
      go : (b : Bool) → Reached (round t s).site (after t n (round t s)).site → Moves t (steps t) s.site (round t s).site
          → Reached s.site (cond b s (after t n (round t s))).site
      go true r m = record { moves = none; held = h }
      go false r m = record { moves = moves_trans t (steps t) m r.moves; held = r.held }

  pub run_reached : (n : ℕ) → Reached (initial t (steps t)) (run t n).site
  run_reached n = after_reached n (start t) (nothing_held t)

  -- what each event due and the rest of each round keep, at the second `now`, holds at the end of a run
  pub record Keeps (I : ℕ → F → Type 0) : Type 0 where
    pub pops : (now : ℕ) (e : Event) (es : List Event) (f : F) → f.pending ≡ e ∷ es → e.time ≤ now → I now f → I now (popped t (steps t) e es f)
    pub ends : (now : ℕ) (f : F) → HeldBut [] f → I now f → I (now + 1) (release_finished t now (with_closed t now (powered t f)))

  module _ {I : ℕ → F → Type 0} (k : Keeps I) where
    due_keeps : (now : ℕ) (es : List Event) (f : F) → f.pending ≡ es → I now f → I now (due t now es f)
    due_keeps now [] f l i = i
    due_keeps now (e ∷ es) f l i =
        by_test (I now) (leb e.time now)
        (λ o. due_keeps now es _ (pending_popped e.kind e.time e.vehicle e.charger (with_pending es f)) (k.pops now e es f l (leb-true e.time now o) i))
        (λ o. i)

    after_keeps : (n : ℕ) (s : State) → HeldBut [] s.site → I s.time s.site → I (after t n s).time (after t n s).site
    unfolding round
    after_keeps zero s h i = i
    after_keeps (suc n) s h i =
        by_cond (λ (r : State). I r.time r.site) (ended t s) i
        (after_keeps n (round t s) (round-reached s h).held
        (k.ends s.time _ (due_reached s.time s.site.pending s.site refl h).held (due_keeps s.time s.site.pending s.site refl i)))

    pub run_keeps : (n : ℕ) → I 0 (initial t (steps t)) → I (run t n).time (run t n).site
    run_keeps n i = after_keeps n (start t) (nothing_held t) i

  -- each vehicle is in exactly one spot
  pub one_spot : (n v : ℕ) → v < length t.vehicles → spots_in (eqb v) (run t n).site ≡ 1
  one_spot n v b = L.one_spot t (steps t) lawful (run_reached n).moves v b

  -- the counts add up
  pub counts : (n : ℕ)
      → yet_to_arrive (run t n).site.pending + length (run t n).site.queue
      + (sessions_with 0 (run t n).site.sessions + sessions_with 1 (run t n).site.sessions + sessions_with 2 (run t n).site.sessions + sessions_with 3 (run t n).site.sessions)
      ≡ length t.vehicles
  counts n = L.counts t (steps t) lawful (run_reached n).moves

  -- no free charger fits a queued vehicle
  pub settled : (n : ℕ) → Settled t (steps t) (run t n).site
  settled n = L.settled t (steps t) lawful (run_reached n).moves

  -- a larger allowance keeps every closed session, at its index
  pub stays : (n : ℕ) (s : State) → ended t s ≡ true → after t n s ≡ s
  stays zero s h = refl
  stays (suc n) s h = rw h

  pub after_add : (n k : ℕ) (s : State) → after t (n + k) s ≡ after t k (after t n s)
  after_add zero k s = rw zero-add
  after_add (suc n) k s = rw suc-add (go (ended t s) refl (after_add n k (round t s)))
    where
      go : (b : Bool) → ended t s ≡ b → after t (n + k) (round t s) ≡ after t k (after t n (round t s))
          → cond b s (after t (n + k) (round t s)) ≡ after t k (cond b s (after t n (round t s)))
      go true e r = sym (stays k s e)
      go false e r = r

  pub kept : (n k : ℕ) → Kept (run t n).site.sessions (run t (n + k)).site.sessions
  kept n k = rw after_add (L.kept t (steps t) (run t n).site (after_reached k (run t n) (run_reached n).held).moves)

-- A run never has fewer of a charger's events than it had: sessions are added, and closed ones keep their charger. Assumes nothing.
use Rattle.std.proofs.Common.{◌≡◌, ℕ, zero, suc, ◌≤◌, Bool, true, false, ◌&&◌, eqb, leb, List, [], ◌∷◌, ◌++◌, length, get_or, set, refl, arith}
use Rattle.charger.specs.First.{Found, nobody, found, first}
use Rattle.charger.specs.Lists.{count}
use Rattle.charger.proofs.Lists.{count-append, by_cond}
use Rattle.power.specs.declared.charger_state.ChargerState.{ChargerState}
use Rattle.power.specs.ChargerState.{is_finished}
use Rattle.engine.specs.declared.events.Event as Engine
use Rattle.engine.specs.declared.events.EventType.{EventType}
use Rattle.engine.specs.declared.events.EventType.TheVariants.{Arrival, Renege, Unplug}
use Rattle.engine.specs.declared.session.Session.{Session}
use Rattle.engine.specs.Plan.{Plan, fits}
use Rattle.engine.specs.SiteState.{SiteState, below, balks, with_pending, turned_away, start_charging, available, arrived, reneged, passed_on, handle, popped, release}
use Rattle.engine.specs.Demand.{has_charger, outcome_number}
use Rattle.engine.specs.Timestep.{State, steps, due, finalized, closed, finished, powered, with_closed, release_all, round, ended, after}
use Rattle.engine.proofs.timestep.Held.{missing}
use Rattle.panel.specs.Events.{CabinetEvent, started, ended as freed}

-- a session keeps what a test says of it when it is closed
abbrev pub Lasts : (Session → Bool) → Type 0
Lasts test = (now : ℕ) (s : ChargerState) (x : Session) → test x ≡ true → test (finalized now s x) ≡ true

module _ (p : Plan) (test : Session → Bool) (lasts : Lasts test) where
  abbrev F : Type 0
  F = SiteState ChargerState

  abbrev More : F → F → Type 0
  More f h = count test f.sessions ≤ count test h.sessions

  more_set : (xs : List Session) (k now : ℕ) (s : ChargerState) → count test xs ≤ count test (set xs k (finalized now s (get_or xs k missing)))
  more_set [] k now s = omega arith
  more_set (x ∷ xs) zero now s = go (test x) refl
    where
      go : (b : Bool) → test x ≡ b → count test (x ∷ xs) ≤ count test (finalized now s x ∷ xs)
      go true e = rw (e, lasts now s x e) (omega arith)
      go false e = rw e (omega arith)
  more_set (x ∷ xs) (suc k) now s = omega (arith, more_set xs k now s)

  more_closed : (now : ℕ) (ss : List ChargerState) (xs : List Session) → count test xs ≤ count test (closed now ss xs)
  more_closed now [] xs = omega arith
  more_closed now (s ∷ ss) xs =
      by_cond (λ (ys : List Session). count test xs ≤ count test (closed now ss ys)) (is_finished s.status)
      (omega (arith, more_set xs s.session now s, more_closed now ss (set xs s.session (finalized now s (get_or xs s.session missing)))))
      (more_closed now ss xs)

  more_added : (xs : List Session) (x : Session) → count test xs ≤ count test (xs ++ (x ∷ []))
  more_added xs x = omega (arith, count-append test xs (x ∷ []))

  more_passed : (now c : ℕ) (f : F) (x : Found) → More f (passed_on p (steps p) now c f x)
  unfolding start_charging
  more_passed now c f nobody = omega arith
  more_passed now c f (found v rest) = more_added f.sessions _

  more_handled : (k : EventType) (now v c : ℕ) (f : F) → More f (handle p (steps p) k now v c f)
  unfolding start_charging
  more_handled Arrival now v c f = go (first (available p (steps p) f v) (below (length p.chargers)))
    where
      away : (b : Bool) → More f (turned_away v f b)
      away true = more_added f.sessions _
      away false = omega arith

      go : (x : Found) → More f (arrived p (steps p) now v f x)
      go nobody = away (balks p.vehicles p.queue_places v f.queue)
      go (found w rest) = more_added f.sessions _
  more_handled Renege now v c f = go (first (eqb v) f.queue)
    where
      go : (x : Found) → More f (reneged p (steps p) now f x)
      go nobody = omega arith
      go (found w rest) = more_added f.sessions _
  more_handled Unplug now v c f = more_passed now c f (first (λ w. fits p w c) f.queue)

  more_due : (now : ℕ) (es : List Engine.Event) (f : F) → More f (due p now es f)
  more_due now [] f = omega arith
  more_due now (e ∷ es) f =
      let g = popped p (steps p) e es f in
      by_cond (More f) (leb e.time now)
      (omega (arith, more_handled e.kind e.time e.vehicle e.charger (with_pending es f), more_due now es g))
      (omega arith)

  more_released : (now : ℕ) (cs : List ℕ) (f : F) → More f (release_all p now cs f)
  more_released now [] f = omega arith
  more_released now (c ∷ cs) f =
      omega (arith, more_passed now c f (first (λ w. fits p w c) f.queue), more_released now cs (release p (steps p) now c f))

  more_round : (s : State) → More s.site (round p s).site
  unfolding round
  more_round s =
      let f = powered p (due p s.time s.site.pending s.site) in
      let g = with_closed p s.time f in
      omega (arith, more_due s.time s.site.pending s.site, more_closed s.time f.places f.sessions, more_released s.time (finished 0 f.places) g)

  more_after : (n : ℕ) (s : State) → More s.site (after p n s).site
  more_after zero s = omega arith
  more_after (suc n) s =
      by_cond (λ (r : State). More s.site r.site) (ended p s) (omega arith)
      (omega (arith, more_round s, more_after n (round p s)))

-- ---- of each event

charger_lasts : (b c : Bool) → (b && c) ≡ true → c ≡ true
charger_lasts true c h = h
charger_lasts false c h = cc

plugged_lasts : (c : ℕ) → Lasts (λ x. has_charger x.outcome && eqb c x.charger)
unfolding finalized
plugged_lasts c now s x h = charger_lasts (has_charger x.outcome) (eqb c x.charger) h

charged_lasts : (c : ℕ) → Lasts (λ x. eqb (outcome_number x.outcome) 1 && eqb c x.charger)
unfolding finalized
charged_lasts c now s x h = charger_lasts (eqb (outcome_number x.outcome) 1) (eqb c x.charger) h

module _ (p : Plan) where
  -- an event that never came less often than it had
  pub record Grows (e : CabinetEvent) : Type 0 where
    pub round : (c : ℕ) (s : State) → e.times c s.site.sessions ≤ e.times c (round p s).site.sessions
    pub after : (c n : ℕ) (s : State) → e.times c s.site.sessions ≤ e.times c (after p n s).site.sessions

  pub started_grows : Grows started
  started_grows = record { round = λ c s. more_round p _ (plugged_lasts c) s; after = λ c n s. more_after p _ (plugged_lasts c) n s }

  pub freed_grows : Grows freed
  freed_grows = record { round = λ c s. more_round p _ (charged_lasts c) s; after = λ c n s. more_after p _ (charged_lasts c) n s }

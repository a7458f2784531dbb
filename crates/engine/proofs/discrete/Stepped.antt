-- What one step of a run by events can do, by cases: the laws of its events and their order go by these.
use Rattle.std.proofs.Common.{◌≡◌, ℕ, ◌+◌, ◌-◌, Bool, true, false, eqb, List, [], ◌∷◌, ◌++◌, length, refl}
use Rattle.charger.specs.First.{Found}
use Rattle.charger.specs.Lists.{All}
use Rattle.charger.proofs.Lists.{Searched, missed, met, searched}
use Rattle.engine.specs.declared.events.Event.{Event}
use Rattle.engine.specs.declared.events.EventType.{EventType}
use Rattle.engine.specs.declared.events.EventType.TheVariants.{Arrival, Renege, Unplug}
use Rattle.engine.specs.declared.session.Outcome.TheVariants.{Reneged, Balked}
use Rattle.engine.specs.Plan.{Plan, vehicle, fits}
use Rattle.engine.specs.SiteState.{SiteState, below, uncharged, with_queue, with_session, with_pending, turned_away, balks as balks_at, freed, start_charging, available, arrived, reneged, passed_on, handle}
use Rattle.engine.specs.Discrete.{Occupant, State, events, pop_first, step}

-- the state with one event more handled
abbrev pub handled : SiteState Occupant → State → State
handled f s = record { site = f; handled = s.handled + 1 }

module _ (p : Plan) where
  pub data Stepped (s : State) : State → Type 0 where
    ended : s.site.pending ≡ [] → Stepped s s
    charges : (e : Event) (es : List Event) (c : ℕ) → s.site.pending ≡ e ∷ es → e.kind ≡ Arrival → available p (events p) s.site e.vehicle c ≡ true
        → Stepped s (handled (start_charging p (events p) e.time e.vehicle c (with_pending es s.site)) s)
    balks : (e : Event) (es : List Event) → s.site.pending ≡ e ∷ es → e.kind ≡ Arrival
        → Stepped s (handled (with_session (uncharged e.vehicle Balked 0) (with_pending es s.site)) s)
    waits : (e : Event) (es : List Event) → s.site.pending ≡ e ∷ es → e.kind ≡ Arrival
        → Stepped s (handled (with_queue (s.site.queue ++ (e.vehicle ∷ [])) (with_pending es s.site)) s)
    frees : (e : Event) (es : List Event) → s.site.pending ≡ e ∷ es → e.kind ≡ Unplug
        → Stepped s (handled (freed p (events p) e.charger (with_pending es s.site)) s)
    passes : (e : Event) (es : List Event) (q : List ℕ) (v : ℕ) (r : List ℕ) → s.site.pending ≡ e ∷ es → e.kind ≡ Unplug → s.site.queue ≡ q ++ (v ∷ r) → fits p v e.charger ≡ true
        → Stepped s (handled (start_charging p (events p) e.time v e.charger (with_queue (q ++ r) (freed p (events p) e.charger (with_pending es s.site)))) s)
    reneges : (e : Event) (es : List Event) (q : List ℕ) (v : ℕ) (r : List ℕ) → s.site.pending ≡ e ∷ es → e.kind ≡ Renege → s.site.queue ≡ q ++ (v ∷ r)
        → eqb e.vehicle v ≡ true → Stepped s (handled (with_session (uncharged v Reneged (e.time - (vehicle p v).arrival)) (with_queue (q ++ r) (with_pending es s.site))) s)
    misses : (e : Event) (es : List Event) → s.site.pending ≡ e ∷ es → e.kind ≡ Renege → All (λ v. eqb e.vehicle v ≡ false) s.site.queue
        → Stepped s (handled (with_pending es s.site) s)

  module _ (s : State) (e : Event) (es : List Event) (l : s.site.pending ≡ e ∷ es) where
    on_arrival : e.kind ≡ Arrival → {f : Found} → Searched (available p (events p) s.site e.vehicle) (below (length p.chargers)) f
        → Stepped s (handled (arrived p (events p) e.time e.vehicle (with_pending es s.site) f) s)
    on_arrival k (missed h) = away (balks_at p.vehicles p.queue_places e.vehicle s.site.queue)
      where
        away : (b : Bool) → Stepped s (handled (turned_away e.vehicle (with_pending es s.site) b) s)
        away true = balks e es l k
        away false = waits e es l k
    on_arrival k (met q c r h a x) = charges e es c l k a

    on_unplug : e.kind ≡ Unplug → {f : Found} → Searched (λ v. fits p v e.charger) s.site.queue f
        → Stepped s (handled (passed_on p (events p) e.time e.charger (with_pending es s.site) f) s)
    on_unplug k (missed h) = frees e es l k
    on_unplug k (met q v r h a x) = passes e es q v r l k x a

    on_renege : e.kind ≡ Renege → {f : Found} → Searched (eqb e.vehicle) s.site.queue f
        → Stepped s (handled (reneged p (events p) e.time (with_pending es s.site) f) s)
    on_renege k (missed h) = misses e es l k h
    on_renege k (met q v r h a x) = reneges e es q v r l k x a

    on_kind : (k : EventType) → e.kind ≡ k → Stepped s (handled (handle p (events p) k e.time e.vehicle e.charger (with_pending es s.site)) s)
    on_kind Arrival k = on_arrival k (searched (available p (events p) s.site e.vehicle) (below (length p.chargers)))
    on_kind Renege k = on_renege k (searched (eqb e.vehicle) s.site.queue)
    on_kind Unplug k = on_unplug k (searched (λ v. fits p v e.charger) s.site.queue)

  on_pop : (s : State) (l : List Event) → s.site.pending ≡ l → Stepped s (pop_first p l s)
  on_pop s [] l = ended l
  on_pop s (e ∷ es) l = on_kind s e es l e.kind refl

  pub stepped : (s : State) → Stepped s (step p s)
  unfolding step
  stepped s = on_pop s s.site.pending refl

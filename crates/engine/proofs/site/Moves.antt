-- What can happen at a site, by cases: the laws of both engines go by these.
use Rattle.std.proofs.Common.{◌≡◌, ℕ, Bool, true, false, eqb, List, [], ◌∷◌, ◌++◌, length, refl}
use Rattle.charger.specs.First.{Found}
use Rattle.charger.specs.Lists.{count, All}
use Rattle.charger.proofs.Lists.{Searched, missed, met, searched}
use Rattle.engine.specs.Demand.{has, has_charger, Kept}
use Rattle.engine.specs.declared.events.Event.{Event}
use Rattle.engine.specs.declared.events.EventType.{EventType}
use Rattle.engine.specs.declared.events.EventType.TheVariants.{Arrival, Renege, Unplug}
use Rattle.engine.specs.declared.session.Session.{Session}
use Rattle.engine.specs.declared.session.Outcome.TheVariants.{Reneged, Balked}
use Rattle.engine.specs.Plan.{Plan, fits}
use Rattle.engine.specs.SiteState.{Engine, SiteState, below, uncharged, with_queue, with_session, with_pending, turned_away, balks as balks_at, freed, start_charging, free_at, available, arrived, reneged, passed_on, release, handle, popped}

-- a session that has a charger is of a pair that fits
abbrev pub Fitted : Plan → Session → Type 0
Fitted p x = has_charger x.outcome ≡ true → fits p x.vehicle x.charger ≡ true

module _ (p : Plan) {A : Type 0} (g : Engine A) where
  -- cars charge and sessions are closed, but everyone stays where they are
  pub record Progress (f h : SiteState A) : Type 0 where
    pub pending : h.pending ≡ f.pending
    pub queue : h.queue ≡ f.queue
    pub free : (c : ℕ) → free_at p g h.places c ≡ free_at p g f.places c
    pub size : length h.places ≡ length f.places
    pub vehicles : (test : ℕ → Bool) → count (has test) h.sessions ≡ count (has test) f.sessions
    pub kept : Kept f.sessions h.sessions
    pub fitted : All (Fitted p) f.sessions → All (Fitted p) h.sessions

  pub data Moved (f : SiteState A) : SiteState A → Type 0 where
    charges : (e : Event) (es : List Event) (c : ℕ) → f.pending ≡ e ∷ es → e.kind ≡ Arrival → available p g f e.vehicle c ≡ true
        → Moved f (start_charging p g e.time e.vehicle c (with_pending es f))
    balks : (e : Event) (es : List Event) → f.pending ≡ e ∷ es → e.kind ≡ Arrival
        → Moved f (with_session (uncharged e.vehicle Balked 0) (with_pending es f))
    waits : (e : Event) (es : List Event) → f.pending ≡ e ∷ es → e.kind ≡ Arrival
        → All (λ c. available p g f e.vehicle c ≡ false) (below (length p.chargers)) → balks_at p.vehicles p.queue_places e.vehicle f.queue ≡ false
        → Moved f (with_queue (f.queue ++ (e.vehicle ∷ [])) (with_pending es f))
    reneges : (e : Event) (es : List Event) (q : List ℕ) (v : ℕ) (r : List ℕ) (waited : ℕ) → f.pending ≡ e ∷ es → e.kind ≡ Renege → f.queue ≡ q ++ (v ∷ r)
        → Moved f (with_session (uncharged v Reneged waited) (with_queue (q ++ r) (with_pending es f)))
    misses : (e : Event) (es : List Event) → f.pending ≡ e ∷ es → e.kind ≡ Renege → Moved f (with_pending es f)
    unplugs : (e : Event) (es : List Event) → f.pending ≡ e ∷ es → e.kind ≡ Unplug → Moved f (with_pending es f)
    frees : (c : ℕ) → All (λ v. fits p v c ≡ false) f.queue → Moved f (freed p g c f)
    passes : (now c : ℕ) (q : List ℕ) (v : ℕ) (r : List ℕ) → f.queue ≡ q ++ (v ∷ r) → fits p v c ≡ true
        → Moved f (start_charging p g now v c (with_queue (q ++ r) (freed p g c f)))
    progresses : {h : SiteState A} → Progress f h → Moved f h

  -- several, one after another
  pub data Moves (f : SiteState A) : SiteState A → Type 0 where
    none : Moves f f
    then : {h k : SiteState A} → Moves f h → Moved h k → Moves f k

  pub moves_trans : {f h k : SiteState A} → Moves f h → Moves h k → Moves f k
  moves_trans m none = m
  moves_trans m (then n s) = then (moves_trans m n) s

  on_release : (now c : ℕ) (f : SiteState A) {x : Found} → Searched (λ v. fits p v c) f.queue x → Moved f (passed_on p g now c f x)
  on_release now c f (missed h) = frees c h
  on_release now c f (met q v r h a x) = passes now c q v r x a

  pub released : (now c : ℕ) (f : SiteState A) → Moved f (release p g now c f)
  released now c f = on_release now c f (searched (λ v. fits p v c) f.queue)

  module _ (f : SiteState A) (e : Event) (es : List Event) (l : f.pending ≡ e ∷ es) where
    on_arrival : e.kind ≡ Arrival → {x : Found} → Searched (available p g f e.vehicle) (below (length p.chargers)) x
        → Moved f (arrived p g e.time e.vehicle (with_pending es f) x)
    on_arrival k (missed h) = away (balks_at p.vehicles p.queue_places e.vehicle f.queue) refl
      where
        away : (b : Bool) → balks_at p.vehicles p.queue_places e.vehicle f.queue ≡ b → Moved f (turned_away e.vehicle (with_pending es f) b)
        away true t = balks e es l k
        away false t = waits e es l k h t
    on_arrival k (met q c r h a x) = charges e es c l k a

    on_renege : e.kind ≡ Renege → {x : Found} → Searched (eqb e.vehicle) f.queue x → Moved f (reneged p g e.time (with_pending es f) x)
    on_renege k (missed h) = misses e es l k
    on_renege k (met q v r h a x) = reneges e es q v r _ l k x

    on_kind : (k : EventType) → e.kind ≡ k → Moves f (handle p g k e.time e.vehicle e.charger (with_pending es f))
    on_kind Arrival k = then none (on_arrival k (searched (available p g f e.vehicle) (below (length p.chargers))))
    on_kind Renege k = then none (on_renege k (searched (eqb e.vehicle) f.queue))
    on_kind Unplug k = then (then none (unplugs e es l k)) (released e.time e.charger (with_pending es f))

  pub pops : (f : SiteState A) (e : Event) (es : List Event) → f.pending ≡ e ∷ es → Moves f (popped p g e es f)
  pops f e es l = on_kind f e es l e.kind refl

-- No wait is cut off: every vehicle that takes a charger or reneges arrived at or before that second, in both engines.
use Rattle.std.proofs.Common.{◌≡◌, ℕ, suc, ◌+◌, ◌-◌, ◌≤◌, Bool, true, false, eqb, List, [], ◌∷◌, ◌++◌, length, get_or, sym, refl, ap, ◌∙◌, subst, add-zero, add-suc, suc-add, zero-add, arith, eqb-true}
use Rattle.charger.specs.First.{Found, nobody, found, first}
use Rattle.charger.specs.Lists.{All, none, also}
use Rattle.charger.specs.declared.vehicle.Vehicle.{Vehicle}
use Rattle.charger.specs.Vehicle.{no_vehicle}
use Rattle.charger.proofs.Lists.{all_append, all_map, all_around, all_right, all_head, all_tail, Searched, missed, met, searched}
use Rattle.engine.specs.declared.events.Event.{Event}
use Rattle.engine.specs.declared.events.EventType.{EventType}
use Rattle.engine.specs.declared.events.EventType.TheVariants.{Arrival, Renege, Unplug}
use Rattle.engine.specs.declared.session.Session.{Session}
use Rattle.engine.specs.declared.session.Outcome.{Outcome}
use Rattle.engine.specs.declared.session.Outcome.TheVariants.{Open}
use Rattle.engine.specs.Plan.{Plan, vehicle, fits, stay}
use Rattle.engine.specs.Events.{unplug, push, Ordered, least, generate}
use Rattle.power.specs.declared.charger_state.ChargerState.{ChargerState}
use Rattle.engine.specs.SiteState.{SiteState, initial, below, start_charging, uncharged, balks as balks_at, with_pending, turned_away, available, arrived, reneged, passed_on, release, handle, popped}
use Rattle.engine.specs.Discrete.{State, charged_session, run}
use Rattle.engine.specs.Timestep.{steps, open_session, finalized, finished, due, with_closed, release_all}
use Rattle.engine.specs.Timestep as T
use Rattle.engine.specs.Demand.{WaitedBy, Waited}
use Rattle.engine.proofs.discrete.Stepped.{Stepped, stepped, ended, charges, balks, waits, frees, passes, reneges, misses}
use Rattle.engine.proofs.discrete.EventLaws.{every_run}
use Rattle.engine.proofs.timestep.Held.{closed_all, from_start, held_charged}
use Rattle.engine.proofs.timestep.RunMoves.{Keeps, run_keeps}
use Rattle.engine.proofs.events.Before.{not_later}
use Rattle.engine.proofs.events.Order.{all_push}
use Rattle.engine.proofs.discrete.InOrder.{ordered}

-- ---- the times of events are the plan's; `Other` is what is known of an unplug

module _ (p : Plan) (Other : Type 0) where
  abbrev pub DatedBy : EventType → ℕ → Vehicle → Type 0
  DatedBy Arrival t v = t ≡ v.arrival
  DatedBy Renege t v = t ≡ v.arrival + v.wait
  DatedBy Unplug t v = Other

  abbrev pub Dated : Event → Type 0
  Dated e = DatedBy e.kind e.time (vehicle p e.vehicle)

  pub dated_generate : (v : ℕ) (xs : List Vehicle) (l : List Event) → ((i : ℕ) → vehicle p (v + i) ≡ get_or xs i no_vehicle) → All Dated l → All Dated (generate v xs l)
  dated_generate v [] l h k = k
  dated_generate v (x ∷ xs) l h k =
      let here : vehicle p v ≡ x = ap (vehicle p) (sym (add-zero v)) ∙ h 0 in
      dated_generate (suc v) xs _ (λ i. ap (vehicle p) (suc-add v i ∙ sym (add-suc v i)) ∙ h (suc i))
      (all_push _ (rw here refl) (all_push _ (rw here refl) k))

  pub dated_start : All Dated (generate 0 p.vehicles [])
  dated_start = dated_generate 0 p.vehicles [] (λ i. ap (vehicle p) (zero-add i)) none

  pub dated_at : (e : Event) (k : EventType) → e.kind ≡ k → Dated e → DatedBy k e.time (vehicle p e.vehicle)
  dated_at e k h d = subst (λ (k : EventType). DatedBy k e.time (vehicle p e.vehicle)) h d

-- ---- by events

-- who is queued arrived at or before every pending event
abbrev InTime : Plan → List Event → ℕ → Type 0
InTime p es v = All (λ e. (vehicle p v).arrival ≤ e.time) es

record Kept (p : Plan) (s : State) : Type 0 where
  dated : All (Dated p Unit) s.site.pending
  queued : All (InTime p s.site.pending) s.site.queue
  waited : All (Waited p) s.site.sessions

exact : (now a : ℕ) → a ≤ now → a + (now - a) ≡ now
exact now a h = omega arith

module _ (p : Plan) where
  -- an unplug that is pushed comes no earlier than the event that is handled
  in_time_push : (e : Event) (es : List Event) (t v c w : ℕ) → InTime p (e ∷ es) w → InTime p (push (unplug (e.time + t) v c) es) w
  in_time_push e es t v c w (also h hs) = all_push _ (omega arith) hs

  all_later : (s : State) {e : Event} {es : List Event} → s.site.pending ≡ e ∷ es → All (InTime p s.site.pending) s.site.queue → All (InTime p es) s.site.queue
  all_later s l h = all_map (λ v k. all_tail (rw l at k)) h

  kept_stepped : (s : State) {t : State} → Stepped p s t → Ordered s.site.pending → Kept p s → Kept p t
  unfolding start_charging charged_session uncharged
  kept_stepped s (ended l) o k = k
  kept_stepped s (charges e es c l h a) o k =
      let now : e.time ≡ (vehicle p e.vehicle).arrival = dated_at p Unit e Arrival h (all_head (rw l at k.dated)) in
      record {
        dated = all_push _ tt (all_tail (rw l at k.dated));
        queued = all_map (λ v q. in_time_push e es (stay p e.vehicle c) e.vehicle c v (rw l at q)) k.queued;
        waited = all_append k.waited (also (exact e.time _ (omega arith)) none);
      }
  kept_stepped s (balks e es l h) o k =
      record {
        dated = all_tail (rw l at k.dated);
        queued = all_later s l k.queued;
        waited = all_append k.waited (also refl none);
      }
  kept_stepped s (waits e es l h) o k =
      let now : e.time ≡ (vehicle p e.vehicle).arrival = dated_at p Unit e Arrival h (all_head (rw l at k.dated)) in
      record {
        dated = all_tail (rw l at k.dated);
        queued = all_append (all_later s l k.queued) (also (behind-first (rw l at o) now) none);
        waited = k.waited;
      }
    where
      behind-first : {e : Event} {es : List Event} {a : ℕ} → Ordered (e ∷ es) → e.time ≡ a → All (λ x. a ≤ x.time) es
      behind-first {e} (least b s) n = all_map (λ x h. omega (arith, not_later e x h)) b
  kept_stepped s (frees e es l h) o k = record { dated = all_tail (rw l at k.dated); queued = all_later s l k.queued; waited = k.waited }
  kept_stepped s (passes e es q v r l h x a) o k =
      let there : All (InTime p s.site.pending) (q ++ (v ∷ r)) = rw x at k.queued in
      let came : (vehicle p v).arrival ≤ e.time = all_head (rw l at (all_head (all_right q there))) in
      record {
        dated = all_push _ tt (all_tail (rw l at k.dated));
        queued = all_map (λ w i. in_time_push e es (stay p v e.charger) v e.charger w (rw l at i)) (all_around q v r there);
        waited = all_append k.waited (also (exact e.time _ came) none);
      }
  kept_stepped s (reneges e es q v r l h x a) o k =
      let own : e.vehicle ≡ v = eqb-true e.vehicle v a in
      let due : e.time ≡ (vehicle p v).arrival + (vehicle p v).wait = rw own at (dated_at p Unit e Renege h (all_head (rw l at k.dated))) in
      record {
        dated = all_tail (rw l at k.dated);
        queued = all_around q v r (rw x at (all_later s l k.queued));
        waited = all_append k.waited (also (omega arith) none);
      }
  kept_stepped s (misses e es l h a) o k = record { dated = all_tail (rw l at k.dated); queued = all_later s l k.queued; waited = k.waited }

  pub waited_by_events : (n : ℕ) → All (Waited p) (run p n).site.sessions
  waited_by_events n =
      (every_run p (Kept p) (record { dated = dated_start p Unit; queued = none; waited = none })
      (λ n k. kept_stepped (run p n) (stepped p (run p n)) (ordered p n) k)
      n
      ).waited

-- ---- by steps

-- who is queued arrived by `now`
pub record KeptBy (p : Plan) (now : ℕ) (f : SiteState ChargerState) : Type 0 where
  pub dated : All (Dated p ⊥) f.pending
  pub queued : All (λ v. (vehicle p v).arrival ≤ now) f.queue
  pub waited : All (Waited p) f.sessions

module _ (p : Plan) (now : ℕ) where
  kept_handled : (e : Event) (es : List Event) (f : SiteState ChargerState) → f.pending ≡ e ∷ es → e.time ≤ now → KeptBy p now f → KeptBy p now (popped p (steps p) e es f)
  unfolding start_charging open_session uncharged
  kept_handled e es f l o k = on e.kind refl
    where
      first_dated : Dated p ⊥ e
      first_dated = all_head (rw l at k.dated)

      rest : KeptBy p now (with_pending es f)
      rest = record { dated = all_tail (rw l at k.dated); queued = k.queued; waited = k.waited }

      away : e.time ≡ (vehicle p e.vehicle).arrival → (b : Bool) → KeptBy p now (turned_away e.vehicle (with_pending es f) b)
      away t true = record { dated = rest.dated; queued = k.queued; waited = all_append k.waited (also refl none) }
      away t false = record { dated = rest.dated; queued = all_append k.queued (also (omega arith) none); waited = k.waited }

      arrives : e.time ≡ (vehicle p e.vehicle).arrival → (x : Found) → KeptBy p now (arrived p (steps p) e.time e.vehicle (with_pending es f) x)
      arrives t nobody = away t (balks_at p.vehicles p.queue_places e.vehicle f.queue)
      arrives t (found c r) = record { dated = rest.dated; queued = k.queued; waited = all_append k.waited (also (exact e.time _ (omega arith)) none) }

      leaves : e.kind ≡ Renege → {x : Found} → Searched (eqb e.vehicle) f.queue x → KeptBy p now (reneged p (steps p) e.time (with_pending es f) x)
      leaves h (missed n) = rest
      leaves h (met q v r n a x) =
          let own : e.vehicle ≡ v = eqb-true e.vehicle v a in
          let due : e.time ≡ (vehicle p v).arrival + (vehicle p v).wait = rw own at (dated_at p ⊥ e Renege h first_dated) in
          record { dated = rest.dated; queued = all_around q v r (rw x at k.queued); waited = all_append k.waited (also (omega arith) none) }

      on : (y : EventType) → e.kind ≡ y → KeptBy p now (handle p (steps p) y e.time e.vehicle e.charger (with_pending es f))
      on Arrival h = arrives (dated_at p ⊥ e Arrival h first_dated) (first (available p (steps p) (with_pending es f) e.vehicle) (below (length p.chargers)))
      on Renege h = leaves h (searched (eqb e.vehicle) f.queue)
      on Unplug h = absurd (dated_at p ⊥ e Unplug h first_dated)

  -- a session that is closed keeps its vehicle, plug-in and wait
  waited_open : (x : Session) (s : ChargerState) → x.outcome ≡ Open → Waited p x → Waited p (finalized now s x)
  unfolding finalized
  waited_open x s h w = subst (λ (o : Outcome). WaitedBy o (vehicle p x.vehicle) x) h w

  kept-passed : (c : ℕ) (f : SiteState ChargerState) → KeptBy p now f → {x : Found} → Searched (λ w. fits p w c) f.queue x → KeptBy p now (passed_on p (steps p) now c f x)
  unfolding start_charging open_session
  kept-passed c f k (missed n) = record { dated = k.dated; queued = k.queued; waited = k.waited }
  kept-passed c f k (met q v r n a x) =
      let there : All (λ v. (vehicle p v).arrival ≤ now) (q ++ (v ∷ r)) = rw x at k.queued in
      record {
        dated = k.dated;
        queued = all_around q v r there;
        waited = all_append k.waited (also (exact now _ (all_head (all_right q there))) none);
      }

  kept_released : (cs : List ℕ) (f : SiteState ChargerState) → KeptBy p now f → KeptBy p now (release_all p now cs f)
  kept_released [] f k = k
  kept_released (c ∷ cs) f k = kept_released cs (release p (steps p) now c f) (kept-passed c f k (searched (λ w. fits p w c) f.queue))

module _ (p : Plan) where
  kept_later : (now : ℕ) (f : SiteState ChargerState) → KeptBy p now f → KeptBy p (now + 1) f
  kept_later now f k = record { dated = k.dated; queued = all_map (λ v h. omega arith) k.queued; waited = k.waited }

  pub keeps : Keeps p (KeptBy p)
  keeps =
      record {
        pops = λ now e es f l o k. kept_handled p now e es f l o k;
        ends = λ now f h k.
            let g = T.powered p f in
            kept_later now _
            (kept_released p now (finished 0 g.places) (with_closed p now g)
            (record {
              dated = k.dated;
              queued = k.queued;
              waited = closed_all p (Waited p) now 0 g.places g.sessions (waited_open p now) (from_start p g (held_charged p f h)) k.waited;
            }));
      }

  pub kept_start : KeptBy p 0 (initial p (steps p))
  kept_start = record { dated = dated_start p ⊥; queued = none; waited = none }

  pub waited_by_steps : (n : ℕ) → All (Waited p) (T.run p n).site.sessions
  waited_by_steps n = (run_keeps p keeps n kept_start).waited

-- What the step engine's functions come to, from what they find out.
use Rattle.std.proofs.Common.{◌≡◌, ℕ, ◌+◌, ◌<◌, ◌≤◌, Bool, true, false, ◌&&◌, eqb, ltb, leb, List, [], ◌∷◌, ◌++◌, length, get_or, set, sym, refl, ap, ◌∙◌, arith, length-append, length-set, ltb-false, ltb-true}
use Rattle.std.specs.Prelude.{Some, None}
use lib.ListN.{get_or-eq_default}
use Rattle.fixed_vec.specs.FixedVec.{FixedVec}
use Rattle.charger.specs.declared.vehicle.Vehicle.{Vehicle}
use Rattle.charger.specs.First.{Found, nobody, found, first}
use Rattle.charger.specs.Lists.{tick, count, All, none, also}
use Rattle.charger.proofs.Lists.{all_append, all_right, all_at, all_head, all_tail, all_around, Searched, missed, met, searched}
use Rattle.charger.specs.Code.Queue.{waiting}
use Rattle.charger.specs.Code.Vehicles.{listed}
use Rattle.charger.specs.Vehicle.{no_vehicle, vehicle_at}
use Rattle.power.specs.declared.charger_state.ChargerState.{ChargerState}
use Rattle.engine.specs.declared.events.Event.{Event}
use Rattle.engine.specs.declared.events.EventType.{EventType}
use Rattle.engine.specs.declared.events.EventType.TheVariants.{Arrival, Renege, Unplug}
use Rattle.engine.specs.declared.plug_in.State.{State}
use Rattle.engine.specs.declared.session.Session.{Session}
use Rattle.engine.specs.declared.site.Site.{Site}
use Rattle.engine.specs.Plan.{Plan, vehicle, rated}
use Rattle.engine.specs.SiteState.{SiteState, Change, balks, turned, withdrawn, free_at, start_charging, with_pending, with_written, handle, popped}
use Rattle.power.specs.ChargerState.{is_free, empty}
use Rattle.engine.specs.Timestep.{steps, open_session, plugged, due}
use Rattle.engine.specs.Demand.{is_arrival, is_unplug, arrives, anyone}
use Rattle.engine.specs.Code.Events.{Queued, Pops, PopsDue, is_due}
use Rattle.engine.specs.Code.Simulation.{pending, booked, plan_of, Takes, FirstBelow, Changed}
use Rattle.engine.specs.Code.Steps.{held, Running, Changes}
use Rattle.engine.proofs.timestep.RunMoves.{pending_popped}
use Rattle.engine.proofs.site.Simulations.{same_site}
use Rattle.engine.proofs.site.Handlers.{arrival_charges, arrival-turned}
use Rattle.engine.proofs.site.Places.{free_at_get}

-- ---- the plan

pub profile_of : (xs : List Vehicle) → All (λ x. x.profile < 16) xs → (v : ℕ) → (vehicle_at xs v).profile < 16
profile_of xs h v = go (ltb v (length xs)) refl
  where
    go : (b : Bool) → ltb v (length xs) ≡ b → (vehicle_at xs v).profile < 16
    go true e = all_at xs v no_vehicle (ltb-true v (length xs) e) h
    go false e = rw (get_or-eq_default xs no_vehicle {n = v} (ltb-false v (length xs) e)) (omega arith)

-- ---- who is looked for in the queue has a small place, if all there have

abbrev Small : ℕ → Type 0
Small v = v < 64

abbrev pub SmallFound : Found → Type 0
SmallFound nobody = Unit {0}
SmallFound (found v rest) = Small v × All Small rest

pub small_first : (test : ℕ → Bool) {xs : List ℕ} → All Small xs → SmallFound (first test xs)
small_first test {xs} h = go (searched test xs)
  where
    go : {f : Found} → Searched test xs f → SmallFound f
    go (missed n) = tt
    go (met s v t n a x) = (all_head (all_right s (rw x at h)), all_around s v t (rw x at h))

small_turned : {v : ℕ} {queue : List ℕ} → Small v → All Small queue → (b : Bool) → All Small (turned v queue b).queue
small_turned h w true = w
small_turned h w false = all_append w (also h none)

small_withdrawn : (vehicles : List Vehicle) (time : ℕ) {queue : List ℕ} → All Small queue → (x : Found) → SmallFound x → All Small (withdrawn vehicles time queue x).queue
small_withdrawn vehicles time w nobody h = w
small_withdrawn vehicles time w (found v rest) h = h.1

-- ---- a vehicle takes a charger

module _ (site : Site) (time v c : ℕ) (x : Session) (state : ChargerState) {s r : State} where
  pub starts : Running site 1 s → x ≡ open_session (vehicle_at (listed site.vehicles) v) time v c
      → (let p = plan_of site in state ≡ plugged (vehicle p v) (p.battery (vehicle p v).profile) (rated p v c) v (length (booked s.simulation.sessions)))
      → r.simulation.events ≡ s.simulation.events → r.simulation.queue ≡ s.simulation.queue → booked r.simulation.sessions ≡ booked s.simulation.sessions ++ (x ∷ [])
      → r.bank.items ≡ set s.bank.items c state
      → Changes site (λ t. start_charging t (steps t) time v c) s r
  unfolding start_charging
  starts f is-session is-state same-events same-queue more stands =
      record {
        state = same_site (ap pending same-events) (ap waiting same-queue) (stands ∙ ap (set s.bank.items c) is-state) (more ∙ ap (λ (y : Session). booked s.simulation.sessions ++ (y ∷ [])) is-session);
        fit = record {
          within = f.within;
          room = record {
            account = rw (same-events, same-queue, more, length-append) (omega (arith, f.room.account));
            kinds = rw same-events f.room.kinds;
            coming = rw same-events f.room.coming;
            waits = rw same-queue f.room.waits;
          };
          places = rw (stands, length-set) f.places;
        };
        events = same-events;
      }

-- ---- a vehicle that takes no charger

module _ (site : Site) {change : Change} {s r : State} (b : Changed change s.simulation r.simulation) (same : r.bank ≡ s.bank) where
  changed_held : held r ≡ record { pending = pending s.simulation.events; queue = change.queue; places = s.bank.items; sessions = with_written change.written (booked s.simulation.sessions) }
  changed_held = same_site (ap pending b.events) b.queue (ap (λ (l : FixedVec ChargerState). l.items) same) b.sessions

  fit_changed : {more : ℕ} → Running site more s → length change.queue + length (with_written change.written (booked s.simulation.sessions)) ≤ length (waiting s.simulation.queue) + length (booked s.simulation.sessions) + more
      → All Small change.queue → Running site 0 r
  fit_changed f fewer small =
      record {
        within = f.within;
        room = record {
          account = rw (b.events, b.queue, b.sessions) (omega (arith, f.room.account));
          kinds = rw b.events f.room.kinds;
          coming = rw b.events f.room.coming;
          waits = rw b.queue small;
        };
        places = rw same f.places;
      }

-- who is turned away is queued or has a session: one more at most
pub fewer_turned : (v : ℕ) (queue : List ℕ) (xs : List Session) (b : Bool) → length (turned v queue b).queue + length (with_written (turned v queue b).written xs) ≤ length queue + length xs + 1
fewer_turned v queue xs true = rw length-append (omega arith)
fewer_turned v queue xs false = rw length-append (omega arith)

-- ---- an arrival

module _ (site : Site) (time v : ℕ) (free : ℕ → Bool → Type 0) (x : Vehicle) (s : State) (f : Running site 1 s)
    (answers : (i : ℕ) (b : Bool) → i < length s.bank.items → free i b → b ≡ is_free (get_or s.bank.items i empty).status) (who : x ≡ vehicle_at (listed site.vehicles) v) where
  abbrev p : Plan
  p = plan_of site

  answered : (i : ℕ) (b : Bool) → i < length p.chargers → free i b → b ≡ free_at p (steps p) s.bank.items i
  answered i b h a = answers i b (omega (arith, f.places)) a ∙ sym (free_at_get p (steps p) s.bank.items i empty (omega (arith, f.places)))

  pub arrives_charging : {r : State} (k : ℕ) → FirstBelow (Takes free p.connectors x) (length p.chargers) (Some k) → Changes site (λ t. start_charging t (steps t) time v k) s r
      → Changes site (λ t. handle t (steps t) Arrival time v 0) s r
  arrives_charging k at d =
      record { state = d.state ∙ sym (arrival_charges p (steps p) (held s) time v 0 free x answered who k at); fit = d.fit; events = d.events }

  pub arrives-turned : {r : State} → FirstBelow (Takes free p.connectors x) (length p.chargers) None → v < 64
      → Changed (turned v (waiting s.simulation.queue) (balks p.vehicles p.queue_places v (waiting s.simulation.queue))) s.simulation r.simulation → r.bank ≡ s.bank
      → Changes site (λ t. handle t (steps t) Arrival time v 0) s r
  arrives-turned at small b same =
      let balk = balks p.vehicles p.queue_places v (waiting s.simulation.queue) in
      record {
        state = changed_held site b same ∙ sym (arrival-turned p (steps p) (held s) time v 0 free x answered who at);
        fit = fit_changed site b same f (fewer_turned v (waiting s.simulation.queue) (booked s.simulation.sessions) balk) (small_turned small f.room.waits balk);
        events = b.events;
      }

-- ---- a renege

-- who leaves the queue has a session, and nobody else
pub fewer_withdrawn : (vehicles : List Vehicle) (time : ℕ) (test : ℕ → Bool) (queue : List ℕ) (xs : List Session)
    → let c = withdrawn vehicles time queue (first test queue) in length c.queue + length (with_written c.written xs) ≤ length queue + length xs + 0
fewer_withdrawn vehicles time test queue xs = go (searched test queue)
  where
    go : {f : Found} → Searched test queue f → let c = withdrawn vehicles time queue f in length c.queue + length (with_written c.written xs) ≤ length queue + length xs + 0
    go (missed h) = omega arith
    go (met s v t h e q) = simp length-append (omega (arith, simp length-append at (ap length q)))

pub reneges : (site : Site) (time v c : ℕ) {s r : State} → Running site 0 s
    → Changed (withdrawn (listed site.vehicles) time (waiting s.simulation.queue) (first (eqb v) (waiting s.simulation.queue))) s.simulation r.simulation → r.bank ≡ s.bank
    → Changes site (λ t. handle t (steps t) Renege time v c) s r
reneges site time v c {s} f b same =
    record {
      state = changed_held site b same;
      fit = fit_changed site b same f (fewer_withdrawn (listed site.vehicles) time (eqb v) (waiting s.simulation.queue) (booked s.simulation.sessions))
          (small_withdrawn (listed site.vehicles) time f.room.waits (first (eqb v) (waiting s.simulation.queue)) (small_first (eqb v) f.room.waits));
      events = b.events;
    }

not_true : {A : Type 0} → false ≡ true → A
not_true {A} e = absurd (let n : ◌≡◌ {A = ℕ} 0 1 = cc in omega arith)

pub unplug_never : {A : Type 0} (k : EventType) → k ≡ Unplug → is_unplug k ≡ false → A
unplug_never k e h = not_true (sym h ∙ ap is_unplug e)

-- ---- the events due

-- the state with that queue of events
abbrev pub behind : State → Queued → State
behind s q = record { simulation = record { events = q; queue = s.simulation.queue; sessions = s.simulation.sessions }; bank = s.bank }

-- once the first event is popped there is room for who arrives now
module _ (site : Site) (s : State) (q : Queued) (e : Event) (f : Running site 0 s) (p : Pops s.simulation.events q (Some e)) where
  pub fit_popped : Running site (tick (is_arrival e.kind)) (behind s q)
  fit_popped =
      let room = rw p.0 at f.room.account in
      record {
        within = f.within;
        room = record {
          account = by_kind (is_arrival e.kind) room;
          kinds = all_tail (rw p.0 at f.room.kinds);
          coming = all_tail (rw p.0 at f.room.coming);
          waits = f.room.waits;
        };
        places = f.places;
      }
    where
      by_kind : (b : Bool) → tick (b && true) + count (arrives anyone) (pending q) + length (waiting s.simulation.queue) + length (booked s.simulation.sessions) + 0 ≤ 64
          → count (arrives anyone) (pending q) + length (waiting s.simulation.queue) + length (booked s.simulation.sessions) + tick b ≤ 64
      by_kind true k = omega arith
      by_kind false k = omega arith

  pub no_unplug : is_unplug e.kind ≡ false
  no_unplug = all_head (rw p.0 at f.room.kinds)

  pub comes : e.vehicle < 64
  comes = all_head (rw p.0 at f.room.coming)

module _ (t : Plan) where
  abbrev pub due_now : ℕ → SiteState ChargerState → SiteState ChargerState
  due_now now f = due t now f.pending f

  -- one of them is handled
  pub due_more : (now : ℕ) (f g : SiteState ChargerState) (e : Event) (es : List Event) → f.pending ≡ e ∷ es → leb e.time now ≡ true → g ≡ popped t (steps t) e es f
      → due_now now g ≡ due_now now f
  due_more now f g e es l h p =
      let left : g.pending ≡ es = ap (λ (x : SiteState ChargerState). x.pending) p ∙ pending_popped t e.kind e.time e.vehicle e.charger (with_pending es f) in
      let here : due_now now f ≡ due t now es (popped t (steps t) e es f) = rw (l, h) in
      let there : due_now now g ≡ due t now es g = rw left in
      there ∙ ap (due t now es) p ∙ sym here

  -- none is left
  pub due_none : (now : ℕ) (f : SiteState ChargerState) → is_due now f.pending ≡ false → due_now now f ≡ f
  due_none now f h = go f.pending h
    where
      go : (es : List Event) → is_due now es ≡ false → due t now es f ≡ f
      go [] h = refl
      go (e ∷ es) h = rw h

  -- one that was due is handled
  pub due_step : (now : ℕ) (s : State) (q : Queued) (e : Event) (r : State) → PopsDue now s.simulation.events q (Some e)
      → held r ≡ handle t (steps t) e.kind e.time e.vehicle e.charger (held (behind s q)) → due_now now (held r) ≡ due_now now (held s)
  due_step now s q e r p h = due_more now (held s) (held r) e (pending q) p.1.0 p.0 h

  -- and none is left
  module _ (now : ℕ) (s : State) (q : Queued) (p : PopsDue now s.simulation.events q None) where
    pub due_last : held (behind s q) ≡ due_now now (held s)
    due_last = rw p.1 (sym (due_none now (held s) p.0))

    pub none_due : is_due now (pending q) ≡ false
    none_due = rw p.1 p.0

pub fit_last : (site : Site) (now : ℕ) (s : State) (q : Queued) → PopsDue now s.simulation.events q None → Running site 0 s → Running site 0 (behind s q)
fit_last site now s q p f = rw p.1 f

-- and one event less
pub popped_less : (s r : State) (q : Queued) (e : Event) → Pops s.simulation.events q (Some e) → r.simulation.events ≡ q → length (pending r.simulation.events) < length (pending s.simulation.events)
popped_less s r q e p same = rw (same, p.0) (omega arith)

-- From the event engine's state to the model's.
use Rattle.std.proofs.Common.{◌≡◌, ℕ, ◌^◌, ◌<◌, ◌≤◌, Bool, true, false, ◌&&◌, List, [], ◌∷◌, ◌++◌, length, get_or, set, replicate, sym, refl, ap, ◌∙◌, arith}
use Rattle.std.specs.Prelude.{Some, None}
use Rattle.fixed_vec.specs.FixedVec.{FixedVec}
use Rattle.charger.specs.declared.vehicle.Vehicle.{Vehicle}
use Rattle.charger.specs.declared.waiting_queue.WaitingQueue.{WaitingQueue}
use Rattle.charger.specs.First.{first}
use Rattle.charger.specs.Lists.{tick, count}
use Rattle.charger.specs.Code.Queue.{waiting, Taken}
use Rattle.charger.specs.Vehicle.{fits_at}
use Rattle.charger.proofs.Lists.{all_head}
use Rattle.engine.specs.declared.discrete.State.{State}
use Rattle.engine.specs.declared.events.Event.{Event}
use Rattle.engine.specs.declared.events.EventType.TheVariants.{Arrival}
use Rattle.engine.specs.declared.session.Session.{Session}
use Rattle.engine.specs.declared.site.Simulation.{Simulation}
use Rattle.engine.specs.Plan.{Plan, vehicle, row_at, fits}
use Rattle.engine.specs.Events.{unplug, push}
use Rattle.engine.specs.SiteState.{SiteState, balks, turned, start_charging, handle, release, freed, with_queue}
use Rattle.engine.specs.Demand.{is_arrival, arrives, anyone}
use Rattle.engine.specs.Discrete as Discrete
use Rattle.engine.specs.Discrete.{Occupant, no_car, car, is_vacant, events, charged_session, start, step}
use Rattle.engine.specs.Code.Events.{Queued, Pops}
use Rattle.engine.specs.Code.Simulation.{pending, booked, held, model, Takes, FirstBelow, AtStart, Changed, Becomes, Admits, Ready}
use Rattle.engine.proofs.site.Handlers.{starts, arrival_charges, arrival-turned, release_passes, release_frees}
use Rattle.engine.proofs.site.Places.{free_at_get}
use Rattle.engine.proofs.site.Simulations.{same_site, changed_site}

pub same_model : {s t : Discrete.State} → s.site ≡ t.site → s.handled ≡ t.handled → s ≡ t
same_model f h = λ i. record { site = f i; handled = h i }

-- a run's start
pub begins : (p : Plan) {r : Simulation} (l : FixedVec Occupant) → AtStart p.vehicles r → l.items ≡ replicate (length p.chargers) no_car → model (record { simulation = r; places = l }) ≡ start p
begins p {r} l s e = same_model (rw e (starts p (events p) s)) s.handled

-- a change is also made if it is another's at this state
pub becomes_as : {change other : SiteState Occupant → SiteState Occupant} {s r : State} → other (held s) ≡ change (held s) → Becomes change s r → Becomes other s r
becomes_as e b = record { site = b.site ∙ sym e; handled = b.handled }

module _ (p : Plan) (time : ℕ) where
  -- a vehicle takes a charger
  pub plugs : (v c : ℕ) (x : Session) {s r : State} {q : Queued} {xs : FixedVec Session} → x ≡ charged_session p time v c
      → q.pending ≡ push (unplug x.unplug v c) (pending s.simulation.events) → q.handled ≡ s.simulation.events.handled → xs.items ≡ booked s.simulation.sessions ++ (x ∷ [])
      → r.simulation ≡ record { events = q; queue = s.simulation.queue; sessions = xs } → r.places.items ≡ set s.places.items c (car v)
      → Becomes (start_charging p (events p) time v c) s r
  unfolding start_charging charged_session
  plugs v c x {s} same pushed counts more sim stands =
      record {
        site = same_site
            (ap (λ (m : Simulation). pending m.events) sim ∙ pushed ∙ ap (λ (y : Session). push (unplug y.unplug v c) (pending s.simulation.events)) same)
            (ap (λ (m : Simulation). waiting m.queue) sim)
            stands
            (ap (λ (m : Simulation). booked m.sessions) sim ∙ more ∙ ap (λ (y : Session). booked s.simulation.sessions ++ (y ∷ [])) same);
        handled = ap (λ (m : Simulation). m.events.handled) sim ∙ counts;
      }

  -- ---- an arrival
  module _ (v c : ℕ) (free : ℕ → Bool → Type 0) (x : Vehicle) (s : State) (full : length s.places.items ≡ length p.chargers)
      (answers : (i : ℕ) (b : Bool) → i < length s.places.items → free i b → b ≡ is_vacant (get_or s.places.items i no_car)) (who : x ≡ vehicle p v) where
    answered : (i : ℕ) (b : Bool) → i < length p.chargers → free i b → b ≡ Rattle.engine.specs.SiteState.free_at p (events p) s.places.items i
    answered i b h a = answers i b (omega arith) a ∙ sym (free_at_get p (events p) s.places.items i no_car (omega arith))

    pub arrives_charging : {r : State} (k : ℕ) → FirstBelow (Takes free p.connectors x) (length p.chargers) (Some k) → Becomes (start_charging p (events p) time v k) s r
        → Becomes (handle p (events p) Arrival time v c) s r
    arrives_charging k f b = becomes_as (arrival_charges p (events p) (held s) time v c free x answered who k f) b

    pub arrives-turned : {r : State} → FirstBelow (Takes free p.connectors x) (length p.chargers) None
        → Changed (turned v (waiting s.simulation.queue) (balks p.vehicles p.queue_places v (waiting s.simulation.queue))) s.simulation r.simulation → r.places ≡ s.places
        → Becomes (handle p (events p) Arrival time v c) s r
    arrives-turned {r} f b same =
        record {
          site = ap (λ (l : FixedVec Occupant). Rattle.engine.specs.Code.Simulation.site_state r.simulation l.items) same
              ∙ changed_site s.places.items b ∙ sym (arrival-turned p (events p) (held s) time v c free x answered who f);
          handled = ap (λ (q : Queued). q.handled) b.events;
        }

  -- ---- an unplug: the charger was freed, which took the state s to m, and then the queue was searched
  module _ (c : ℕ) (row : List Bool) (s m : State) (rowed : row ≡ row_at p.connectors c) (rest : m.simulation ≡ s.simulation) (freed_there : m.places.items ≡ set s.places.items c no_car) where
    -- the state with that queue
    abbrev pub left : WaitingQueue → State
    left q = record { simulation = record { events = m.simulation.events; queue = q; sessions = m.simulation.sessions }; places = m.places }

    held-left : (q : WaitingQueue) → held (left q) ≡ with_queue (waiting q) (freed p (events p) c (held s))
    held-left q = same_site (ap (λ (x : Simulation). pending x.events) rest) refl freed_there (ap (λ (x : Simulation). booked x.sessions) rest)

    searched_as : first (fits_at row p.vehicles) (waiting m.simulation.queue) ≡ first (λ w. fits p w c) (held s).queue
    unfolding fits
    searched_as = rw (← rowed, rest)

    pub passes : (q : WaitingQueue) {r : State} (v : ℕ) → Taken (first (fits_at row p.vehicles) (waiting m.simulation.queue)) (waiting m.simulation.queue) (waiting q) (Some v)
        → Becomes (start_charging p (events p) time v c) (left q) r → Becomes (release p (events p) time c) s r
    passes q v t b =
        record {
          site = b.site ∙ ap (start_charging p (events p) time v c) (held-left q) ∙ sym (release_passes p (events p) (held s) time c v (waiting q) (sym searched_as ∙ sym t.found));
          handled = b.handled ∙ ap (λ (x : Simulation). x.events.handled) rest;
        }

    pub frees : (q : WaitingQueue) → Taken (first (fits_at row p.vehicles) (waiting m.simulation.queue)) (waiting m.simulation.queue) (waiting q) None
        → Becomes (release p (events p) time c) s (left q)
    frees q t =
        record {
          site = held-left q
              ∙ ap (λ (l : List ℕ). with_queue l (freed p (events p) c (held s))) (t.kept ∙ ap (λ (x : Simulation). waiting x.queue) rest)
              ∙ sym (release_frees p (events p) (held s) time c (sym searched_as ∙ sym t.found));
          handled = ap (λ (x : Simulation). x.events.handled) rest;
        }

-- ---- the first pending event
all_anyone : (b : Bool) → (b && true) ≡ b
all_anyone true = refl
all_anyone false = refl

-- the state with that queue of events
abbrev pub behind : State → Queued → State
behind s q = record { simulation = record { events = q; queue = s.simulation.queue; sessions = s.simulation.sessions }; places = s.places }

module _ (s : State) (e : Event) (q : Queued) (popped : Pops s.simulation.events q (Some e)) where
  module _ (r : Ready s.simulation) where
    pub in_time : e.time < 2 ^ 63
    in_time = all_head (rw popped.0 at r.times)

    -- an arrival is one of the vehicles that there is room for
    pub room_for : Admits (tick (is_arrival e.kind)) (behind s q).simulation
    room_for =
        let one : tick (arrives anyone e) ≤ count (arrives anyone) (pending s.simulation.events) = rw popped.0 (omega arith) in
        let counted = rw (all_anyone (is_arrival e.kind)) at one in
        record {
          events = omega (arith, counted, r.room.events, popped.1, ap length popped.0);
          sessions = omega (arith, counted, r.room.sessions);
        }

  -- and handled, which is a step
  pub stepped : (p : Plan) {t : State} → Becomes (handle p (events p) e.kind e.time e.vehicle e.charger) (behind s q) t → model t ≡ step p (model s)
  unfolding step
  stepped p b = same_model b.site (b.handled ∙ popped.1) ∙ rw popped.0

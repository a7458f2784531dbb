-- Rules. The state of a site, and what both engines do to it alike: an arrival, a renege, a freed charger.
use Rattle.std.specs.Prelude.{ℕ, zero, suc, ◌-◌, Bool, true, false, ◌&&◌, ◌||◌, List, [], ◌∷◌, ◌++◌, length, replicate, nat_eq, nat_le, slice_set, Option, Some, None}
use Rattle.curve.specs.F64.{ratio}
use Rattle.charger.specs.declared.vehicle.Vehicle.{Vehicle}
use Rattle.charger.specs.First.{Found, nobody, found, first}
use Rattle.charger.specs.Vehicle.{vehicle_at}
use Rattle.charger.specs.Fleet.{fleet_full}
use Rattle.engine.specs.declared.events.Event.{Event}
use Rattle.engine.specs.declared.events.EventType.{EventType}
use Rattle.engine.specs.declared.events.EventType.TheVariants.{Arrival, Renege, Unplug}
use Rattle.engine.specs.declared.session.Session.{Session}
use Rattle.engine.specs.declared.session.Outcome.{Outcome}
use Rattle.engine.specs.declared.session.Outcome.TheVariants.{Reneged, Balked}
use Rattle.engine.specs.Plan.{Time, VehiclePlace, ChargerPlace, Plan, fits}
use Rattle.engine.specs.Events.{generate}

-- What tells the engines apart. `A` is what stands at a charger: by steps its ChargerState, by events who stands there.
-- When `v` plugs in at `c`: the session written, what then stands at the charger (the session's index comes last), and what
-- becomes of the pending events.
pub record Engine (A : Type 0) : Type 0 where
  pub empty : A
  pub is_free : A → Bool
  pub session : Time → VehiclePlace → ChargerPlace → Session
  pub occupant : Time → VehiclePlace → ChargerPlace → ℕ → A
  pub pend : Time → VehiclePlace → ChargerPlace → List Event → List Event

-- `pending` is in the order in which the events pop; `places` says what stands at each charger, in plan order
pub record SiteState (A : Type 0) : Type 0 where
  pub pending : List Event
  pub queue : List VehiclePlace
  pub places : List A
  pub sessions : List Session

abbrev pub is_empty : {B : Type 0} → List B → Bool
is_empty [] = true
is_empty (x ∷ xs) = false

-- the places below n
abbrev pub below : ℕ → List ℕ
below zero = []
below (suc n) = below n ++ (n ∷ [])

-- a session of a vehicle that did not charge
unfoldable pub uncharged : VehiclePlace → Outcome → Time → Session
unfolding ratio
uncharged v o waited =
    record {
      vehicle = v;
      outcome = o;
      charger = 0;
      plugin = 0;
      unplug = 0;
      wait = waited;
      duration = record { 0 = ratio 0 1 };
      idle = record { 0 = ratio 0 1 };
      peak = record { 0 = ratio 0 1 };
      energy = record { 0 = ratio 0 1 };
    }

-- ---- what becomes of a vehicle that takes no charger

-- the queue that is left, and what is written down
pub record Change : Type 0 where
  pub queue : List VehiclePlace
  pub written : Option Session

-- the queue has reached the vehicle's own limit
abbrev pub limit_reached : List Vehicle → VehiclePlace → List VehiclePlace → Bool
limit_reached vehicles v queue = nat_le (vehicle_at vehicles v).limit (length queue)

-- a vehicle that finds no charger balks by its own limit, or if its fleet has filled its places (request 9)
unfoldable pub balks : List Vehicle → List ℕ → VehiclePlace → List VehiclePlace → Bool
balks vehicles places v queue = limit_reached vehicles v queue || fleet_full vehicles places (vehicle_at vehicles v).fleet queue

-- no charger: balk, else wait
abbrev pub turned : VehiclePlace → List VehiclePlace → Bool → Change
turned v queue true = record { queue = queue; written = Some (uncharged v Balked 0) }
turned v queue false = record { queue = queue ++ (v ∷ []); written = None }

-- a renege finds its vehicle queued, and it leaves, or finds nobody
abbrev pub withdrawn : List Vehicle → Time → List VehiclePlace → Found → Change
withdrawn vehicles now queue nobody = record { queue = queue; written = None }
withdrawn vehicles now queue (found v rest) = record { queue = rest; written = Some (uncharged v Reneged (now - (vehicle_at vehicles v).arrival)) }

abbrev pub with_written : Option Session → List Session → List Session
with_written None sessions = sessions
with_written (Some x) sessions = sessions ++ (x ∷ [])

-- ---- the state

module _ {A : Type 0} where
  abbrev pub with_queue : List VehiclePlace → SiteState A → SiteState A
  with_queue q f = record { pending = f.pending; queue = q; places = f.places; sessions = f.sessions }

  abbrev pub with_session : Session → SiteState A → SiteState A
  with_session x f = record { pending = f.pending; queue = f.queue; places = f.places; sessions = f.sessions ++ (x ∷ []) }

  -- the popped event is gone
  abbrev pub with_pending : List Event → SiteState A → SiteState A
  with_pending es f = record { pending = es; queue = f.queue; places = f.places; sessions = f.sessions }

  abbrev pub with_change : Change → SiteState A → SiteState A
  with_change x f = record { pending = f.pending; queue = x.queue; places = f.places; sessions = with_written x.written f.sessions }

  abbrev pub turned_away : VehiclePlace → SiteState A → Bool → SiteState A
  turned_away v f b = with_change (turned v f.queue b) f

module _ (p : Plan) {A : Type 0} (g : Engine A) where
  abbrev pub initial : SiteState A
  initial = record { pending = generate 0 p.vehicles []; queue = []; places = replicate (length p.chargers) g.empty; sessions = [] }

  abbrev pub freed : ChargerPlace → SiteState A → SiteState A
  freed c f = record { pending = f.pending; queue = f.queue; places = slice_set f.places c g.empty; sessions = f.sessions }

  -- `v` takes the charger `c`
  unfoldable pub start_charging : Time → VehiclePlace → ChargerPlace → SiteState A → SiteState A
  start_charging now v c f =
      record {
        pending = g.pend now v c f.pending;
        queue = f.queue;
        places = slice_set f.places c (g.occupant now v c (length f.sessions));
        sessions = f.sessions ++ (g.session now v c ∷ []);
      }

  -- whether the charger is free; none stands past the last place
  abbrev pub free_at : List A → ChargerPlace → Bool
  free_at [] c = false
  free_at (x ∷ xs) zero = g.is_free x
  free_at (x ∷ xs) (suc c) = free_at xs c

  abbrev pub available : SiteState A → VehiclePlace → ChargerPlace → Bool
  available f v c = free_at f.places c && fits p v c

  -- an arrival takes the first free charger that fits, else it balks or waits
  abbrev pub arrived : Time → VehiclePlace → SiteState A → Found → SiteState A
  arrived now v f nobody = turned_away v f (balks p.vehicles p.queue_places v f.queue)
  arrived now v f (found c rest) = start_charging now v c f

  abbrev pub reneged : Time → SiteState A → Found → SiteState A
  reneged now f x = with_change (withdrawn p.vehicles now f.queue x) f

  abbrev pub passed_on : Time → ChargerPlace → SiteState A → Found → SiteState A
  passed_on now c f nobody = freed c f
  passed_on now c f (found v rest) = start_charging now v c (with_queue rest (freed c f))

  -- the charger is freed, and takes the first fitting vehicle of the queue at once
  abbrev pub release : Time → ChargerPlace → SiteState A → SiteState A
  release now c f = passed_on now c f (first (λ w. fits p w c) f.queue)

  abbrev pub handle : EventType → Time → VehiclePlace → ChargerPlace → SiteState A → SiteState A
  handle Arrival now v c f = arrived now v f (first (available f v) (below (length p.chargers)))
  handle Renege now v c f = reneged now f (first (nat_eq v) f.queue)
  handle Unplug now v c f = release now c f

  -- the first pending event is popped
  abbrev pub popped : Event → List Event → SiteState A → SiteState A
  popped e es f = handle e.kind e.time e.vehicle e.charger (with_pending es f)

-- Refinement: what the program's structs stand for.
use Rattle.std.specs.Prelude.{◌≡◌, ℕ, ◌+◌, ◌^◌, ◌<◌, ◌≤◌, Bool, true, false, ◌&&◌, List, [], length, take, Option, MatchOption, slice_index_or}
use Rattle.curve.specs.F64.{ratio}
use Rattle.curve.specs.declared.units.Kwh.{Kwh}
use Rattle.charger.specs.declared.vehicle.Vehicle.{Vehicle}
use Rattle.charger.specs.Lists.{count, All}
use Rattle.charger.specs.Code.Profiles.{curve_at}
use Rattle.charger.specs.Code.Queue.{waiting}
use Rattle.charger.specs.Vehicle.{compatible}
use Rattle.charger.specs.Code.Vehicles.{listed}
use Rattle.fixed_vec.specs.FixedVec.{FixedVec}
use Rattle.engine.specs.declared.discrete.State.{State}
use Rattle.engine.specs.declared.events.Event.{Event}
use Rattle.engine.specs.declared.session.Session.{Session}
use Rattle.engine.specs.declared.site.Site.{Site}
use Rattle.engine.specs.declared.site.Simulation.{Simulation}
use Rattle.engine.specs.Plan.{Plan, row_at}
use Rattle.engine.specs.Events.{generate}
use Rattle.engine.specs.SiteState.{SiteState, Change, with_written}
use Rattle.engine.specs.Demand.{arrives, anyone}
use Rattle.engine.specs.Discrete as Discrete
use Rattle.engine.specs.Code.Events.{Queued}

-- the pending events, in the order in which they pop
abbrev pub pending : Queued → List Event
pending q = q.pending

abbrev pub booked : FixedVec Session → List Session
booked s = s.items

-- the state of the site, with what stands at its chargers
abbrev pub site_state : {A : Type 0} → Simulation → List A → SiteState A
site_state s places = record { pending = pending s.events; queue = waiting s.queue; places = places; sessions = booked s.sessions }

-- no battery past the last profile
abbrev pub battery_at : List Kwh → ℕ → Kwh
battery_at batteries k = slice_index_or batteries k (record { 0 = ratio 0 1 })

-- a row for each charger
abbrev pub connectors_of : Site → List (List Bool)
connectors_of site = take (length site.chargers.items) site.rows

abbrev pub plan_of : Site → Plan
plan_of site =
    record {
      limit = site.limit;
      curve = curve_at site.curves site.lens;
      battery = battery_at site.batteries;
      chargers = site.chargers.items;
      connectors = connectors_of site;
      vehicles = listed site.vehicles;
      queue_places = site.vehicles.queue_places;
    }

-- whether the charger is free, as `free` answers of it, and fits the vehicle
abbrev pub Takes : (ℕ → Bool → Type 0) → List (List Bool) → Vehicle → ℕ → Bool → Type 0
Takes free rows x c b = (is_free : Bool) × free c is_free × (b ≡ (is_free && compatible (row_at rows c) x))

-- the first place below n of which the test answers yes, if it does of one
abbrev pub FirstBelow : (ℕ → Bool → Type 0) → ℕ → Option ℕ → Type 0
FirstBelow test n found =
    MatchOption found ((k : ℕ) → k < n → test k false) (λ c. (c < n) × test c true × ((k : ℕ) → k < c → test k false))

-- document 01's limits on times
abbrev pub InTime : Vehicle → Type 0
InTime x = (x.arrival ≤ 1000000) × (x.wait ≤ 1000000)

-- all that the rules see of the start of a run
pub record AtStart (vehicles : List Vehicle) (r : Simulation) : Type 0 where
  pub pending : pending r.events ≡ generate 0 vehicles []
  pub queue : waiting r.queue ≡ []
  pub sessions : booked r.sessions ≡ []
  pub handled : r.events.handled ≡ 0

-- the start of a run
pub record Starts (vehicles : List Vehicle) (r : Simulation) : Type 0 where
  pub pending : pending r.events ≡ generate 0 vehicles []
  pub queue : waiting r.queue ≡ []
  pub sessions : booked r.sessions ≡ []
  pub handled : r.events.handled ≡ 0
  pub bound : length r.events.pending ≤ 128

abbrev pub at_start : {vehicles : List Vehicle} {r : Simulation} → Starts vehicles r → AtStart vehicles r
at_start s = record { pending = s.pending; queue = s.queue; sessions = s.sessions; handled = s.handled }

-- a vehicle that takes no charger: the change of the queue was made, and who is no longer queued has a session
pub record Changed (change : Change) (s r : Simulation) : Type 0 where
  pub events : r.events ≡ s.events
  pub queue : waiting r.queue ≡ change.queue
  pub sessions : booked r.sessions ≡ with_written change.written (booked s.sessions)

-- ---- the run by events

-- the state of the site, with who stands at its chargers
abbrev pub held : State → SiteState Discrete.Occupant
held s = site_state s.simulation s.places.items

-- what the event engine's state stands for
abbrev pub model : State → Discrete.State
model s = record { site = held s; handled = s.simulation.events.handled }

-- a state is the plan's run by the events that it has handled
abbrev pub RunSoFar : Plan → State → Type 0
RunSoFar p s = model s ≡ Discrete.run p s.simulation.events.handled

-- `change` took the state s to r, and no event more counts as handled
pub record Becomes (change : SiteState Discrete.Occupant → SiteState Discrete.Occupant) (s r : State) : Type 0 where
  pub site : held r ≡ change (held s)
  pub handled : r.simulation.events.handled ≡ s.simulation.events.handled

-- there is room for an event and a session of each vehicle that is queued, and of `more` besides
pub record Admits (more : ℕ) (s : Simulation) : Type 0 where
  pub events : s.events.handled + length (pending s.events) + length (waiting s.queue) + more ≤ 192
  pub sessions : length (booked s.sessions) + length (waiting s.queue) + more ≤ 64

-- what a step asks: room for what each vehicle that is in no session yet can still add, and times that fit
pub record Ready (s : Simulation) : Type 0 where
  pub room : Admits (count (arrives anyone) (pending s.events)) s
  pub times : All (λ (e : Event). e.time < 2 ^ 63) (pending s.events)

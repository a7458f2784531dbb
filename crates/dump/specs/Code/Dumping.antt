-- Refinement: what is asked of a call that lays a dump.
use Rattle.std.specs.Prelude.{ℕ, ◌≤◌, ◌<◌, ◌≡◌, refl, List, [], ◌∷◌, length}
use native.Mathlib.Bridge.{le_prop}
use Rattle.charger.specs.Lists.{All, none, also}
use Rattle.charger.specs.Code.Queue.{waiting}
use Rattle.charger.specs.Code.Vehicles.{listed}
use Rattle.engine.specs.declared.events.Event.{Event}
use Rattle.engine.specs.declared.discrete.State.{State}
use Rattle.engine.specs.declared.site.Site.{Site}
use Rattle.engine.specs.Discrete.{Occupant, no_car, car}
use Rattle.engine.specs.Code.Simulation.{pending, booked}
use Rattle.files.specs.Code.Reading.{Counted}
use Rattle.files.specs.Code.Writing.{rows_of}
use Rattle.files.specs.Read.{vehicles_of, connector_rows}

-- a place for which its block's 16-bit number can be told
abbrev pub Near : ℕ → Type 0
Near i = i < 65536

abbrev pub NearEvent : Event → Type 0
NearEvent e = (e.vehicle < 65536) × (e.charger < 65536)

-- a proof of it is like any other
pub near-one : (es : List Event) → IsProp (All NearEvent es)
near-one [] none none = refl
near-one (e ∷ es) (also p ps) (also q qs) = λ i. also (le_prop p.0 q.0 i, le_prop p.1 q.1 i) (near-one es ps qs i)

abbrev pub NearCar : Occupant → Type 0
NearCar no_car = Unit {0}
NearCar (car v) = Near v

-- the state of a run by events of a plan
pub record Dumpable (plan : List ℕ) (site : Site) (state : State) : Type 0 where
  pub counted : Counted plan
  pub vehicles : listed site.vehicles ≡ vehicles_of plan
  pub connectors : rows_of plan site ≡ connector_rows plan
  pub sessions : length (booked state.simulation.sessions) ≤ 64
  pub events : All NearEvent (pending state.simulation.events)
  pub queue : All Near (waiting state.simulation.queue)
  pub chargers : length state.places.items ≤ 32
  pub cars : All NearCar state.places.items

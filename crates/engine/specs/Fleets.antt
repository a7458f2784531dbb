-- Rules. Request 9, places by fleet, of a run: no fleet's queue exceeds its places, and with every fleet 0 all is as before.
use Rattle.std.specs.Prelude.{◌≡◌, ℕ, ◌≤◌, List}
use Rattle.charger.specs.Fleet.{queued_of, places_of}
use Rattle.charger.specs.Lists.{All}
use Rattle.engine.specs.Plan.{VehiclePlace, Plan}
use Rattle.engine.specs.SiteState.{limit_reached, balks}
use Rattle.engine.specs.Demand.{by_events, by_steps}

-- no fleet has more queued than it has places
abbrev pub FleetsWithin : Plan → List VehiclePlace → Type 0
FleetsWithin p queue = (fleet : ℕ) → 1 ≤ fleet → queued_of p.vehicles fleet queue ≤ places_of p.queue_places fleet

-- every fleet is 0
abbrev pub NoFleets : Plan → Type 0
NoFleets p = All (λ x. x.fleet ≡ 0) p.vehicles

-- the same plan with other queue places
abbrev pub with_queue_places : List ℕ → Plan → Plan
with_queue_places places p = record p { queue_places = places }

-- the balk test is document 01's, and both runs go as under any other places
pub record AsBefore (p : Plan) : Type 0 where
  pub test : (v : VehiclePlace) (queue : List VehiclePlace) → balks p.vehicles p.queue_places v queue ≡ limit_reached p.vehicles v queue
  pub events : (places : List ℕ) (n : ℕ) → by_events (with_queue_places places p) n ≡ by_events p n
  pub steps : (places : List ℕ) (n : ℕ) → by_steps (with_queue_places places p) n ≡ by_steps p n

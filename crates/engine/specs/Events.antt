-- Rules. Events: who goes first in one second (request 4), and the events of a plan. Pending events are a list in that order.
use Rattle.std.specs.Prelude.{◌≡◌, ℕ, suc, ◌+◌, Bool, true, cond, ◌&&◌, ◌||◌, List, [], ◌∷◌, ◌==◌, nat_lt}
use Rattle.charger.specs.Lists.{All}
use Rattle.charger.specs.declared.vehicle.Vehicle.{Vehicle}
use Rattle.engine.specs.Plan.{Time, VehiclePlace, ChargerPlace}
use Rattle.engine.specs.declared.events.Event.{Event}
use Rattle.engine.specs.declared.events.EventType.{EventType}
use Rattle.engine.specs.declared.events.EventType.TheVariants.{Arrival, Renege, Unplug}

abbrev pub arrival : Time → VehiclePlace → Event
arrival t v = record { time = t; kind = Arrival; vehicle = v; charger = 0 }

abbrev pub renege : Time → VehiclePlace → Event
renege t v = record { time = t; kind = Renege; vehicle = v; charger = 0 }

abbrev pub unplug : Time → VehiclePlace → ChargerPlace → Event
unplug t v c = record { time = t; kind = Unplug; vehicle = v; charger = c }

-- at equal times unplugs come first, then arrivals, then reneges
abbrev pub rank : EventType → ℕ
rank Unplug = 0
rank Arrival = 1
rank Renege = 2

-- and those of one kind by place: unplugs by their charger's, the others by their vehicle's
abbrev pub place_by : EventType → VehiclePlace → ChargerPlace → ℕ
place_by Unplug v c = c
place_by Arrival v c = v
place_by Renege v c = v

abbrev pub place_of : Event → ℕ
place_of e = place_by e.kind e.vehicle e.charger

-- the smaller number goes first; where they are equal, what comes next decides
abbrev pub smaller : ℕ → ℕ → Bool → Bool
smaller a b next = nat_lt a b || (a == b && next)

-- the order of events, for both engines: `e` pops before `x`
unfoldable pub before : Event → Event → Bool
before e x = smaller e.time x.time (smaller (rank e.kind) (rank x.kind) (nat_lt (place_of e) (place_of x)))

-- an event goes in front of the first that it pops before
abbrev pub push : Event → List Event → List Event
push e [] = e ∷ []
push e (x ∷ xs) = cond (before e x) (e ∷ (x ∷ xs)) (x ∷ push e xs)

-- events in order: each pops before all that stand behind it
pub data Ordered : List Event → Type 0 where
  empty : Ordered []
  least : {e : Event} {l : List Event} → All (λ x. before e x ≡ true) l → Ordered l → Ordered (e ∷ l)

-- the arrival and the renege of each vehicle, pushed in plan order from the place v
abbrev pub generate : VehiclePlace → List Vehicle → List Event → List Event
generate v [] l = l
generate v (x ∷ xs) l = generate (suc v) xs (push (renege (x.arrival + x.wait) v) (push (arrival x.arrival v) l))

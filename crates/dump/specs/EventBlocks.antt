-- Rules. Blocks of pending events, 31 16-byte events a block, in the order in which they pop.
use Rattle.std.specs.Prelude.{◌≡◌, refl, ℕ, zero, suc, ◌+◌, ◌*◌, ◌/◌, List, [], ◌∷◌, ◌++◌, map, length, get_or}
use Rattle.engine.specs.declared.events.Event.{Event}
use Rattle.engine.specs.declared.events.EventType.{EventType}
use Rattle.engine.specs.declared.events.EventType.TheVariants.{Arrival, Renege, Unplug}
use Rattle.engine.specs.Plan.{VehiclePlace, ChargerPlace}
use Rattle.plan.specs.Bytes.{bytes, fields, pieces}
use Rattle.plan.specs.Blocks.{sealed}
use Rattle.plan.specs.Places.{place_of}
use Rattle.plan.specs.declared.places.Kind.TheVariants.{Charger, Vehicle}

abbrev pub kind_number : EventType → ℕ
kind_number Arrival = 0
kind_number Renege = 1
kind_number Unplug = 2

-- the block in the plan that an event names: for an unplug the charger's, else the vehicle's
abbrev pub block_by : List ℕ → EventType → VehiclePlace → ChargerPlace → ℕ
block_by plan Arrival v c = place_of plan Vehicle v
block_by plan Renege v c = place_of plan Vehicle v
block_by plan Unplug v c = place_of plan Charger c

-- an event's 16 bytes: the time, the kind at 8, the block at 10
unfoldable pub event_bytes : List ℕ → Event → List ℕ
event_bytes plan e =
    fields
    (8 ∷ e.time ∷ 1 ∷ kind_number e.kind ∷ 1 ∷ 0 ∷ 2 ∷ block_by plan e.kind e.vehicle e.charger ∷ 4 ∷ 0 ∷ [])

-- the bytes of the event at the index k, zero past the last one
unfoldable pub event_slot : List ℕ → List Event → ℕ → List ℕ
event_slot plan es k = get_or (map (event_bytes plan) es) k (bytes 16 0)

pub length-slot : (plan : List ℕ) (es : List Event) (k : ℕ) → length (event_slot plan es k) ≡ 16
unfolding event_slot event_bytes fields bytes
length-slot plan [] k = refl
length-slot plan (e ∷ es) zero = refl
length-slot plan (e ∷ es) (suc k) = length-slot plan es k

-- the block of the events 31 j to 31 j + 30, where the first block of events is the place-th of its file
unfoldable pub event_block : ℕ → List ℕ → List Event → ℕ → List ℕ
event_block place plan es j = sealed (place + j) (pieces (event_slot plan es) (31 * j) 31 ++ bytes 12 0)

-- how many blocks n events take
abbrev pub blocks_of_events : ℕ → ℕ
blocks_of_events n = (n + 30) / 31

-- all of them
unfoldable pub event_blocks : ℕ → List ℕ → List Event → List ℕ
event_blocks place plan es = pieces (event_block place plan es) 0 (blocks_of_events (length es))

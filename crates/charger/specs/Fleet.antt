-- Rules. Request 9, places by fleet: how many of a fleet are queued, and when it has filled its places.
use Rattle.std.specs.Prelude.{Bool, ◌&&◌, List, ℕ, ◌-◌, leb, eqb, get_or}
use Rattle.charger.specs.declared.vehicle.Vehicle.{Vehicle}
use Rattle.charger.specs.Lists.{count}
use Rattle.charger.specs.Vehicle.{vehicle_at}

abbrev pub of_fleet : List Vehicle → ℕ → ℕ → Bool
of_fleet vehicles fleet v = eqb (vehicle_at vehicles v).fleet fleet

-- the whole fleet counts, whichever chargers its vehicles fit
unfoldable pub queued_of : List Vehicle → ℕ → List ℕ → ℕ
queued_of vehicles fleet queue = count (of_fleet vehicles fleet) queue

-- the queue places of a fleet, given from fleet 1 on
abbrev pub places_of : List ℕ → ℕ → ℕ
places_of places fleet = get_or places (fleet - 1) 0

-- the fleet already has as many queued as it has places; fleet 0 has no such limit
unfoldable pub fleet_full : List Vehicle → List ℕ → ℕ → List ℕ → Bool
fleet_full vehicles places fleet queue = leb 1 fleet && leb (places_of places fleet) (queued_of vehicles fleet queue)

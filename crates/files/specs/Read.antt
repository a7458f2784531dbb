-- Rules. What the engines read of a plan, from its blocks. Profiles, chargers and vehicles go by their places among their kind, from 0.
use Rattle.std.specs.Prelude.{ℕ, ◌+◌, ◌-◌, ◌*◌, Bool, cond, List, [], ◌∷◌, ltb, eqb, get_or}
use Rattle.curve.specs.F64.{ratio}
use Rattle.curve.specs.Curve.{curve_of}
use Rattle.curve.specs.declared.units.Amperes.{Amperes}
use Rattle.curve.specs.declared.units.Kwh.{Kwh}
use Rattle.curve.specs.declared.points.Point.{Point}
use Rattle.charger.specs.Connector.{named_connectors, codes_of, row_of}
use Rattle.charger.specs.declared.charger.Charger.{Charger}
use Rattle.charger.specs.declared.vehicle.Vehicle.{Vehicle}
use Rattle.engine.specs.Plan.{Plan}
use Rattle.shares.specs.Watts.{watts_of}
use Rattle.power.specs.declared.power.Limit.{Limit}
use Rattle.power.specs.declared.power.Limit.TheVariants.{Unlimited, AtMost, Shared}
use Rattle.plan.specs.Bytes.{le_at}
use Rattle.plan.specs.Search.{each}
use Rattle.plan.specs.Fields.{f64_at, point_count}
use Rattle.plan.specs.Places.{profile_count, charger_count, vehicle_count, start_of, profile_block, charger_block, vehicle_block}
use Rattle.plan.specs.Plan.{with_id}
use Rattle.plan.specs.declared.places.Kind.TheVariants.{Profile as ProfileKind, Charger as ChargerKind}

-- ---- profiles

abbrev pub point_at : List ℕ → ℕ → Point
point_at b i = record { soc = f64_at b (16 + 16 * i); power = record { 0 = f64_at b (24 + 16 * i) } }

-- the points of a profile's block, in its order
unfoldable pub points_of : List ℕ → List Point
points_of b = each (point_at b) 0 (point_count b)

-- a profile's curve; past the last profile there is none
unfoldable pub curve_of_profile : List ℕ → ℕ → List Point
curve_of_profile plan k = cond (ltb k (profile_count plan)) (curve_of (points_of (profile_block plan k))) []

abbrev pub no_battery : Kwh
no_battery = record { 0 = ratio 0 1 }

-- a profile's battery; past the last profile there is none
unfoldable pub battery_of : List ℕ → ℕ → Kwh
battery_of plan k = cond (ltb k (profile_count plan)) (record { 0 = f64_at (profile_block plan k) 8 }) no_battery

-- ---- chargers

abbrev pub codes_at : List ℕ → ℕ → List ℕ
codes_at b at = get_or b at 0 ∷ get_or b (at + 1) 0 ∷ get_or b (at + 2) 0 ∷ get_or b (at + 3) 0 ∷ get_or b (at + 4) 0 ∷ []

-- the caps of a charger's leads, by connector code from 1
abbrev pub caps_of : List ℕ → List Amperes
caps_of b =
    record { 0 = f64_at b 40 } ∷ record { 0 = f64_at b 48 } ∷ record { 0 = f64_at b 56 } ∷ record { 0 = f64_at b 64 } ∷ record { 0 = f64_at b 72 } ∷ []

abbrev pub charger_of : List ℕ → Charger
charger_of b =
    record { max_power = record { 0 = f64_at b 16 }; current = record { 0 = f64_at b 24 }; voltage = record { 0 = f64_at b 32 }; caps = caps_of b }

-- which connectors a charger's block names
abbrev pub row_of_charger : List ℕ → List Bool
row_of_charger b = row_of (codes_of (le_at 1 b 4) (codes_at b 5))

unfoldable pub chargers_of : List ℕ → List Charger
chargers_of plan = each (λ c. charger_of (charger_block plan c)) 0 (charger_count plan)

unfoldable pub connector_rows : List ℕ → List (List Bool)
connector_rows plan = each (λ c. row_of_charger (charger_block plan c)) 0 (charger_count plan)

-- ---- vehicles

-- the place of the first profile with the id; P where none has it
unfoldable pub profile_index : List ℕ → ℕ → ℕ
profile_index plan id = with_id plan (start_of plan ProfileKind) (start_of plan ChargerKind) id - 1

-- the vehicle of a block, whose profile has the place
unfoldable pub vehicle_of : List ℕ → ℕ → Vehicle
vehicle_of b place =
    let own = named_connectors (le_at 1 b 8) (codes_at b 9) in
    record {
      profile = place;
      codes = own.codes;
      fleet = le_at 2 b 60;
      count = own.count;
      start = f64_at b 16;
      target = f64_at b 24;
      idle = record { 0 = f64_at b 32 };
      arrival = le_at 8 b 40;
      wait = le_at 8 b 48;
      limit = le_at 4 b 56;
    }

unfoldable pub vehicle_in : List ℕ → ℕ → Vehicle
vehicle_in plan v = vehicle_of (vehicle_block plan v) (profile_index plan (le_at 4 (vehicle_block plan v) 4))

unfoldable pub vehicles_of : List ℕ → List Vehicle
vehicles_of plan = each (vehicle_in plan) 0 (vehicle_count plan)

-- ---- the whole plan

-- the queue places of the fleets, that of fleet 1 in the header's byte 24 (request 9)
unfoldable pub queue_places_of : List ℕ → List ℕ
queue_places_of plan = each (λ k. get_or plan (24 + k) 0) 0 64

-- byte 12 of the header is 1 with a site limit, and 2 with one that is shared evenly in whole watts (request 10)
unfoldable pub limit_of : List ℕ → Limit
limit_of plan =
    cond (eqb (le_at 1 plan 12) 1) (AtMost (record { 0 = f64_at plan 16 })) (cond (eqb (le_at 1 plan 12) 2) (Shared (watts_of (f64_at plan 16))) Unlimited)

-- all that the engines read
abbrev pub read_plan : List ℕ → Plan
read_plan plan =
    record {
      limit = limit_of plan;
      curve = curve_of_profile plan;
      battery = battery_of plan;
      chargers = chargers_of plan;
      connectors = connector_rows plan;
      vehicles = vehicles_of plan;
      queue_places = queue_places_of plan;
    }

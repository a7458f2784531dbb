-- Rules. What the book says of a session. Its floats go by their bits.
use Rattle.std.specs.Prelude.{ℕ, ◌^◌, ◌<◌, Bool, cond, List, Option, map, leb, ltb, eqb, Float}
use Rattle.std.specs.Option.{unwrap_or}
use Rattle.std.specs.Float.{binary64}
use Rattle.std.specs.Float.Ieee.{to_bits}
use Rattle.charger.specs.Vehicle.{connector_of, vehicle_at}
use Rattle.charger.specs.declared.vehicle.Vehicle.{Vehicle}
use Rattle.engine.specs.Plan.{row_at}
use Rattle.engine.specs.Demand.{outcome_number}
use Rattle.engine.specs.declared.session.Session.{Session}
use Rattle.plan.specs.Bytes.{le_at}
use Rattle.plan.specs.Places.{charger_count, vehicle_count, charger_block, vehicle_block}
use Rattle.files.specs.Read.{connector_rows, vehicles_of}
use Rattle.files.specs.declared.book_session.BookSession.{BookSession}

-- ---- which fields a session has, by the number of its outcome; a field that is missing is zero bytes

-- outcomes 2 and 3 have no charger: all is missing but ids of vehicle and profile, outcome, fleet, arrival, wait, start
abbrev pub plugged : ℕ → Bool
plugged o = leb o 1

-- for 0 unplug, charge duration, peak and energy are missing
abbrev pub charged : ℕ → Bool
charged o = eqb o 1

-- a field, zero where it is missing
abbrev pub kept : Bool → ℕ → ℕ
kept there x = cond there x 0

-- ---- what the book says of a session of the engines

-- an f64 by its bits
abbrev pub bits : Float → ℕ
bits x = to_bits binary64 x

-- the code of a connector
abbrev pub code_of : Option ℕ → ℕ
code_of k = unwrap_or k 0

-- a 32-bit number of a vehicle's block, its id at 0 or its profile's id at 4; zero past the last vehicle
unfoldable pub vehicle_number : List ℕ → ℕ → ℕ → ℕ
vehicle_number plan v at = cond (ltb v (vehicle_count plan)) (le_at 4 (vehicle_block plan v) at) 0

-- a charger's id; zero past the last charger
unfoldable pub charger_id : List ℕ → ℕ → ℕ
charger_id plan c = cond (ltb c (charger_count plan)) (le_at 4 (charger_block plan c) 0) 0

-- what the book says of a session
abbrev pub entry : List ℕ → List Vehicle → List (List Bool) → Session → BookSession
entry plan vehicles connectors x =
    let car = vehicle_at vehicles x.vehicle in
    let o = outcome_number x.outcome in
    record {
      vehicle_id = vehicle_number plan x.vehicle 0;
      profile_id = vehicle_number plan x.vehicle 4;
      charger_id = kept (plugged o) (charger_id plan x.charger);
      connector = kept (plugged o) (code_of (connector_of (row_at connectors x.charger) car));
      outcome = o;
      fleet = car.fleet;
      arrival = car.arrival;
      plugin = kept (plugged o) x.plugin;
      unplug = kept (charged o) x.unplug;
      wait = x.wait;
      duration = kept (charged o) (bits x.duration.0);
      idle = kept (plugged o) (bits car.idle.0);
      peak = kept (charged o) (bits x.peak.0);
      energy = kept (charged o) (bits x.energy.0);
      start = bits car.start;
      end = kept (plugged o) (bits car.target);
    }

-- the sessions of the book of a plan
unfoldable pub book_sessions : List ℕ → List Session → List BookSession
book_sessions plan xs = map (entry plan (vehicles_of plan) (connector_rows plan)) xs

-- the session is one of the vehicle with the id
abbrev pub has_id : ℕ → BookSession → Bool
has_id id x = eqb id x.vehicle_id

-- what stands in a session's place where there is none: its bytes are zero
unfoldable pub no_session : BookSession
no_session =
    record {
      vehicle_id = 0;
      profile_id = 0;
      charger_id = 0;
      connector = 0;
      outcome = 0;
      fleet = 0;
      arrival = 0;
      plugin = 0;
      unplug = 0;
      wait = 0;
      duration = 0;
      idle = 0;
      peak = 0;
      energy = 0;
      start = 0;
      end = 0;
    }

-- a session whose fields fit their widths, so that none is cut off
pub record Fits (x : BookSession) : Type 0 where
  pub vehicle : x.vehicle_id < 2 ^ 32
  pub profile : x.profile_id < 2 ^ 32
  pub charger : x.charger_id < 2 ^ 32
  pub connector : x.connector < 2 ^ 8
  pub outcome : x.outcome < 2 ^ 8
  pub fleet : x.fleet < 2 ^ 16
  pub arrival : x.arrival < 2 ^ 64
  pub plugin : x.plugin < 2 ^ 64
  pub unplug : x.unplug < 2 ^ 64
  pub wait : x.wait < 2 ^ 64
  pub duration : x.duration < 2 ^ 64
  pub idle : x.idle < 2 ^ 64
  pub peak : x.peak < 2 ^ 64
  pub energy : x.energy < 2 ^ 64
  pub start : x.start < 2 ^ 64
  pub end : x.end < 2 ^ 64

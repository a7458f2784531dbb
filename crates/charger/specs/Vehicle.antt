-- Rules. Which vehicles fit a charger.
use Rattle.std.specs.Prelude.{Bool, List, Option, ℕ, get_or, take, replicate}
use Rattle.curve.specs.F64.{ratio}
use Rattle.charger.specs.declared.vehicle.Vehicle.{Vehicle}
use Rattle.charger.specs.Connector.{common, is_connector}

-- the connector that a charger and a vehicle use: the first of the vehicle's that the charger has
abbrev pub connector_of : List Bool → Vehicle → Option ℕ
connector_of row v = common row (take v.count v.codes)

-- a pair fits if it has a connector in common
unfoldable pub compatible : List Bool → Vehicle → Bool
compatible row v = is_connector (connector_of row v)

-- one that fits no charger
abbrev pub no_vehicle : Vehicle
no_vehicle =
    record {
      profile = 0;
      codes = replicate 5 0;
      fleet = 0;
      count = 0;
      start = ratio 0 1;
      target = ratio 0 1;
      idle = record { 0 = ratio 0 1 };
      arrival = 0;
      wait = 0;
      limit = 0;
    }

-- the vehicle at a place of the plan; past the last, one that fits no charger
abbrev pub vehicle_at : List Vehicle → ℕ → Vehicle
vehicle_at vehicles v = get_or vehicles v no_vehicle

abbrev pub fits_at : List Bool → List Vehicle → ℕ → Bool
fits_at row vehicles v = compatible row (vehicle_at vehicles v)

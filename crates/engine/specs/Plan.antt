-- Rules. What the engines read of a plan. Vehicles, chargers and profiles go by their places in it.
use Rattle.std.specs.Prelude.{ℕ, ◌+◌, Bool, false, List, replicate, slice_index_or}
use Rattle.curve.specs.F64.{ceiling}
use Rattle.curve.specs.Curve.{integrate_over}
use Rattle.curve.specs.declared.points.Point.{Point}
use Rattle.curve.specs.declared.charge_profile.ChargingOutput.{ChargingOutput}
use Rattle.curve.specs.declared.units.Kw.{Kw}
use Rattle.curve.specs.declared.units.Kwh.{Kwh}
use Rattle.charger.specs.declared.charger.Charger.{Charger}
use Rattle.charger.specs.declared.vehicle.Vehicle.{Vehicle}
use Rattle.charger.specs.Vehicle.{compatible, vehicle_at}
use Rattle.charger.specs.Charger.{no_charger, rated_power}
use Rattle.power.specs.declared.power.Limit.{Limit}
use Rattle.power.specs.Power.{ProfilePlace}

-- whole seconds from the start of the day
abbrev pub Time : Type 0
Time = ℕ

-- places in the plan, from 0
abbrev pub VehiclePlace : Type 0
VehiclePlace = ℕ

abbrev pub ChargerPlace : Type 0
ChargerPlace = ℕ

-- `curve` and `battery` go by profile; `connectors` has a row for each charger, which says for each code whether it has that connector;
-- `queue_places` are those of the fleets, from 1 on
pub record Plan : Type 0 where
  pub limit : Limit
  pub curve : ProfilePlace → List Point
  pub battery : ProfilePlace → Kwh
  pub chargers : List Charger
  pub connectors : List (List Bool)
  pub vehicles : List Vehicle
  pub queue_places : List ℕ

-- past the last charger there is one with no power
unfoldable pub charger_at : List Charger → ChargerPlace → Charger
unfolding no_charger
charger_at chargers c = slice_index_or chargers c no_charger

-- past the last charger there is no connector
abbrev pub row_at : List (List Bool) → ChargerPlace → List Bool
row_at rows c = slice_index_or rows c (replicate 5 false)

-- the whole seconds from plug-in to unplug: charge duration rounded up, and idle rounded up
abbrev pub stay_of : Vehicle → ChargingOutput → Time
stay_of x charge = ceiling charge.duration.0 + ceiling x.idle.0

module _ (p : Plan) where
  abbrev pub vehicle : VehiclePlace → Vehicle
  vehicle v = vehicle_at p.vehicles v

  -- the pair has a connector in common
  unfoldable pub fits : VehiclePlace → ChargerPlace → Bool
  fits v c = compatible (row_at p.connectors c) (vehicle v)

  -- the pair's rated power, by the connector resolved
  unfoldable pub rated : VehiclePlace → ChargerPlace → Kw
  rated v c = rated_power (charger_at p.chargers c) (row_at p.connectors c) (vehicle v)

  -- what charging the vehicle at the charger takes
  unfoldable pub output : VehiclePlace → ChargerPlace → ChargingOutput
  output v c =
      let x = vehicle v in
      integrate_over (p.curve x.profile) (p.battery x.profile) x.start x.target (rated v c)

  unfoldable pub stay : VehiclePlace → ChargerPlace → Time
  stay v c = stay_of (vehicle v) (output v c)

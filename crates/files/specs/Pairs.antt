-- Rules. The table's row 12: a vehicle and a charger that fit, and the charge duration is not within 0 to 604,800 s.
use Rattle.std.specs.Prelude.{ℕ, Bool, cond, not, ◌&&◌, List, ltb, length, Option, Some, None}
use Rattle.curve.specs.F64.{within}
use Rattle.curve.specs.Curve.{integrate_over}
use Rattle.curve.specs.declared.points.Point.{Point}
use Rattle.curve.specs.declared.units.Kwh.{Kwh}
use Rattle.charger.specs.Charger.{rated_power}
use Rattle.charger.specs.Vehicle.{compatible}
use Rattle.charger.specs.declared.charger.Charger.{Charger}
use Rattle.charger.specs.declared.vehicle.Vehicle.{Vehicle}
use Rattle.engine.specs.Plan.{Plan, charger_at, row_at, vehicle}
use Rattle.plan.specs.Search.{first_index}

-- the vehicle, whose profile has the curve and the battery, fits the charger, and cannot be charged there in time
abbrev pub fails : List Point → Kwh → Vehicle → Charger → List Bool → Bool
fails curve battery x charger row =
    compatible row x && not (within (integrate_over curve battery x.start x.target (rated_power charger row x)).duration.0)

module _ (p : Plan) where
  -- the vehicle at the place v fails at the charger at the place c
  abbrev pub fails_at : ℕ → ℕ → Bool
  fails_at v c =
      let x = vehicle p v in
      fails (p.curve x.profile) (p.battery x.profile) x (charger_at p.chargers c) (row_at p.connectors c)

  -- the first charger that the vehicle fails at; the number of chargers where there is none
  unfoldable pub failing_charger : ℕ → ℕ
  failing_charger v = first_index (fails_at v) 0 (length p.chargers)

  -- it fails at some charger
  abbrev pub fails_somewhere : ℕ → Bool
  fails_somewhere v = ltb (failing_charger v) (length p.chargers)

  -- the first vehicle that fails somewhere, with the first charger that it fails at
  unfoldable pub failing_pair : Option (ℕ × ℕ)
  failing_pair =
      let v : ℕ = first_index fails_somewhere 0 (length p.vehicles) in
      cond (ltb v (length p.vehicles)) (Some (v, (failing_charger v))) None

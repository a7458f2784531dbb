-- Rules. Request 8, amps by lead: what the caps of its leads do to a charger's rated power.
use Rattle.std.specs.Prelude.{◌≡◌, Bool, true, cond, List, ◌⊎◌, T}
use Rattle.std.specs.Float.Ieee.{le}
use Rattle.curve.specs.F64.{ratio}
use Rattle.curve.specs.Limits.{Within, Power}
use Rattle.curve.specs.declared.units.Amperes.{Amperes}
use Rattle.curve.specs.declared.units.Kw.{Kw}
use Rattle.charger.specs.declared.charger.Charger.{Charger}
use Rattle.charger.specs.declared.vehicle.Vehicle.{Vehicle}
use Rattle.charger.specs.Charger.{is_none, actual_max_power}
use Rattle.charger.specs.Lists.{All}
use Rattle.charger.specs.Vehicle.{compatible}

abbrev pub NoCap : Amperes → Type 0
NoCap cap = is_none cap ≡ true

-- none, or one from 1 to 4,096 A
abbrev pub CapWithin : Amperes → Type 0
CapWithin cap = NoCap cap ⊎ Within (ratio 1 1) (ratio 4096 1) cap.0

-- a charger within its limits
pub record ChargerWithin (x : Charger) : Type 0 where
  pub power : Power x.max_power.0
  pub current : Within (ratio 1 1) (ratio 4096 1) x.current.0
  pub voltage : Within (ratio 1 1) (ratio 4096 1) x.voltage.0
  pub caps : All CapWithin x.caps

-- the rated power as document 01 has it, by the charger's own current
abbrev pub uncapped : Charger → List Bool → Vehicle → Kw
uncapped charger row vehicle = cond (compatible row vehicle) (actual_max_power charger charger.current) (record { 0 = ratio 0 1 })

-- with no caps the rated power is that one, and a cap never raises it
pub record CapsLower (charger : Charger) (row : List Bool) (vehicle : Vehicle) (rated : Kw) : Type 0 where
  pub without : All NoCap charger.caps → rated ≡ uncapped charger row vehicle
  pub lower : ChargerWithin charger → T (le rated.0 (uncapped charger row vehicle).0)

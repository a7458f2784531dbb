-- Rules. The connector that a charger and a vehicle resolve to, and the power that it can give.
use Rattle.std.specs.Prelude.{Bool, cond, List, Option, Some, None, ℕ, ◌-◌, leb, get_or, replicate}
use Rattle.std.specs.Float.Ieee.{eq}
use Rattle.curve.specs.F64.{◌⊗◌, ◌⊘◌, ratio, least}
use Rattle.curve.specs.declared.units.Kw.{Kw}
use Rattle.curve.specs.declared.units.Amperes.{Amperes}
use Rattle.charger.specs.declared.charger.Charger.{Charger}
use Rattle.charger.specs.declared.charger.Lead.{Lead}
use Rattle.charger.specs.declared.vehicle.Vehicle.{Vehicle}
use Rattle.charger.specs.Vehicle.{connector_of}

abbrev pub no_cap : Amperes
no_cap = record { 0 = ratio 0 1 }

-- one with no power
unfoldable pub no_charger : Charger
unfolding ratio
no_charger =
    record { max_power = record { 0 = ratio 0 1 }; current = record { 0 = ratio 0 1 }; voltage = record { 0 = ratio 0 1 }; caps = replicate 5 no_cap }

-- the cap of the lead with a code, from 1 (request 8)
unfoldable pub cap_of : Charger → ℕ → Amperes
unfolding ratio
cap_of charger code = cond (leb 1 code) (get_or charger.caps (code - 1) no_cap) no_cap

-- a cap of 0 A is none
abbrev pub is_none : Amperes → Bool
is_none cap = eq cap.0 (ratio 0 1)

-- the smaller of cap and current, where there is a cap
abbrev pub capped : Amperes → Amperes → Amperes
capped cap current = cond (is_none cap) current (record { 0 = least cap.0 current.0 })

-- the current through the lead with a code
abbrev pub current_of : Charger → ℕ → Amperes
current_of charger code = capped (cap_of charger code) charger.current

-- the connector that they have in common, with its current
abbrev pub with_current : Charger → Option ℕ → Option Lead
with_current charger (Some code) = Some (record { code = code; current = current_of charger code })
with_current charger None = None

abbrev pub resolve : Charger → List Bool → Vehicle → Option Lead
resolve charger row vehicle = with_current charger (connector_of row vehicle)

-- the smaller of current times voltage, in kW, and the largest power
unfoldable pub actual_max_power : Charger → Amperes → Kw
unfolding ratio
actual_max_power charger current = record { 0 = least (current.0 ⊗ charger.voltage.0 ⊘ ratio 1000 1) charger.max_power.0 }

-- by the connector resolved; no power where there is none
abbrev pub power_by : Charger → Option Lead → Kw
power_by charger (Some lead) = actual_max_power charger lead.current
power_by charger None = record { 0 = ratio 0 1 }

abbrev pub rated_power : Charger → List Bool → Vehicle → Kw
rated_power charger row vehicle = power_by charger (resolve charger row vehicle)

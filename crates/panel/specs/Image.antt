-- Rules. Request 12: the 16 bytes as which a panel board reads a cabinet.
use Rattle.std.specs.Prelude.{ℕ, ◌+◌, ◌*◌, Bool, true, false, cond, not, List, ◌∷◌, ◌++◌}
use Rattle.charger.specs.Lists.{tick}
use Rattle.power.specs.declared.charger_state.Status.{Status}
use Rattle.power.specs.declared.charger_state.Status.TheVariants.{Free, Charging, Idle, Finished}
use Rattle.power.specs.declared.charger_state.ChargerState.{ChargerState}
use Rattle.power.specs.ChargerState.{is_free, is_charging}
use Rattle.plan.specs.Bytes.{bytes}
use Rattle.files.specs.BookSession.{bits, vehicle_number}
use Rattle.panel.specs.Registers.{Cabinet, byte_of}

abbrev pub is_idle : Status → Bool
is_idle Free = false
is_idle Charging = false
is_idle Idle = true
is_idle Finished = false

-- bit 0 occupied, 1 charging, 2 idle
abbrev pub status_byte : Status → ℕ
status_byte s = tick (not (is_free s)) + 2 * tick (is_charging s) + 4 * tick (is_idle s)

-- the id of the vehicle at the charger; zero at a free one
abbrev pub vehicle_id : List ℕ → ChargerState → ℕ
vehicle_id plan s = cond (is_free s.status) 0 (vehicle_number plan s.vehicle 0)

-- the bits of its energy so far, in kWh; zero at a free one
abbrev pub energy_bits : ChargerState → ℕ
energy_bits s = cond (is_free s.status) 0 (bits s.energy.0)

-- status, pending, enable, zero, the vehicle's id, its energy so far
unfoldable pub image : List ℕ → ChargerState → Cabinet → List ℕ
image plan s x =
    status_byte s.status ∷ byte_of x.pending ∷ byte_of x.enable ∷ 0 ∷ (bytes 4 (vehicle_id plan s) ++ bytes 8 (energy_bits s))

-- Rules. One round at one charger.
use Rattle.std.specs.Prelude.{Bool, true, false, cond, ◌&&◌, List, [], ◌∷◌, Float}
use Rattle.std.specs.Float.Ieee.{le}
use Rattle.curve.specs.F64.{◌⊕◌, ◌⊖◌, ◌⊗◌, ◌⊘◌, ratio, least, greatest}
use Rattle.curve.specs.declared.units.Kw.{Kw}
use Rattle.power.specs.declared.charger_state.Status.{Status}
use Rattle.power.specs.declared.charger_state.Status.TheVariants.{Free, Charging, Idle, Finished}
use Rattle.power.specs.declared.charger_state.ChargerState.{ChargerState}

abbrev pub is_free : Status → Bool
is_free Free = true
is_free Charging = false
is_free Idle = false
is_free Finished = false

abbrev pub is_finished : Status → Bool
is_finished Free = false
is_finished Charging = false
is_finished Idle = false
is_finished Finished = true

abbrev pub is_charging : Status → Bool
is_charging Free = false
is_charging Charging = true
is_charging Idle = false
is_charging Finished = false

-- no car
unfoldable pub empty : ChargerState
unfolding ratio
empty =
    let zero = ratio 0 1 in
    record {
      status = Free;
      vehicle = 0;
      profile = 0;
      session = 0;
      soc = zero;
      target = zero;
      battery = record { 0 = zero };
      rated = record { 0 = zero };
      requested = record { 0 = zero };
      cap = record { 0 = zero };
      idle = record { 0 = zero };
      energy = record { 0 = zero };
      peak = record { 0 = zero };
    }

-- an hour's part that a round takes, as one rounded constant
abbrev pub hours : Float
hours = ratio 1 1 ⊘ ratio 3600 1

-- what the car draws, if the site's limit leaves it alone
abbrev pub draw : ChargerState → Float
draw s = least s.requested.0 s.rated.0

abbrev pub with_request : Kw → ChargerState → ChargerState
with_request r s =
    record {
      status = s.status;
      vehicle = s.vehicle;
      profile = s.profile;
      session = s.session;
      soc = s.soc;
      target = s.target;
      battery = s.battery;
      rated = s.rated;
      requested = r;
      cap = s.cap;
      idle = s.idle;
      energy = s.energy;
      peak = s.peak;
    }

abbrev pub with_cap : Kw → ChargerState → ChargerState
with_cap c s =
    record {
      status = s.status;
      vehicle = s.vehicle;
      profile = s.profile;
      session = s.session;
      soc = s.soc;
      target = s.target;
      battery = s.battery;
      rated = s.rated;
      requested = s.requested;
      cap = c;
      idle = s.idle;
      energy = s.energy;
      peak = s.peak;
    }

abbrev pub charging_until : Float → Float → Status
charging_until target soc = cond (le target soc) Idle Charging

abbrev pub idle_until : Float → Status
idle_until left = cond (le left (ratio 0 1)) Finished Idle

-- a round of charging by a power: idle once the target is reached
abbrev pub delivered : Float → ChargerState → ChargerState
delivered power s =
    let energy = power ⊗ hours in
    let soc = s.soc ⊕ energy ⊘ s.battery.0 in
    record {
      status = charging_until s.target soc;
      vehicle = s.vehicle;
      profile = s.profile;
      session = s.session;
      soc = soc;
      target = s.target;
      battery = s.battery;
      rated = s.rated;
      requested = s.requested;
      cap = s.cap;
      idle = s.idle;
      energy = record { 0 = s.energy.0 ⊕ energy };
      peak = record { 0 = greatest s.peak.0 power };
    }

-- a round of charging
unfoldable pub after_charging : ChargerState → ChargerState
unfolding ratio
after_charging s = delivered (least s.requested.0 s.cap.0) s

-- a round of standing idle: finished once no idle time is left
unfoldable pub after_idling : ChargerState → ChargerState
unfolding ratio
after_idling s =
    let left = s.idle.0 ⊖ ratio 1 1 in
    record {
      status = idle_until left;
      vehicle = s.vehicle;
      profile = s.profile;
      session = s.session;
      soc = s.soc;
      target = s.target;
      battery = s.battery;
      rated = s.rated;
      requested = s.requested;
      cap = s.cap;
      idle = record { 0 = left };
      energy = s.energy;
      peak = s.peak;
    }

abbrev pub progress_by : Status → ChargerState → ChargerState
progress_by Free s = s
progress_by Charging s = after_charging s
progress_by Idle s = after_idling s
progress_by Finished s = s

abbrev pub progress : ChargerState → ChargerState
progress s = progress_by s.status s

abbrev pub all_free : List ChargerState → Bool
all_free [] = true
all_free (s ∷ ss) = is_free s.status && all_free ss

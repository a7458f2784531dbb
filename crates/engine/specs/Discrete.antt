-- Rules. The run by events: a unit is one popped event, also a renege that finds nobody.
use Rattle.std.specs.Prelude.{ℕ, zero, suc, ◌+◌, ◌-◌, Bool, true, false, List, [], ◌∷◌, Option, Some, None}
use Rattle.curve.specs.declared.charge_profile.ChargingOutput.{ChargingOutput}
use Rattle.charger.specs.declared.vehicle.Vehicle.{Vehicle}
use Rattle.engine.specs.declared.events.Event.{Event}
use Rattle.engine.specs.declared.session.Session.{Session}
use Rattle.engine.specs.declared.session.Outcome.TheVariants.{Charged}
use Rattle.engine.specs.Plan.{Time, VehiclePlace, ChargerPlace, Plan, vehicle, output, stay}
use Rattle.engine.specs.Events.{unplug, push}
use Rattle.engine.specs.SiteState.{Engine, SiteState, is_empty, initial, popped}

-- who stands at a charger: no car, or the vehicle at a place of the plan
abbrev pub Occupant : Type 0
Occupant = Option VehiclePlace

pattern abbrev pub no_car : Occupant
no_car = None

pattern abbrev pub car : VehiclePlace → Occupant
car v = Some v

abbrev pub is_vacant : Occupant → Bool
is_vacant no_car = true
is_vacant (car v) = false

-- `handled` counts the popped events
pub record State : Type 0 where
  pub site : SiteState Occupant
  pub handled : ℕ

-- the session is written at plug-in, from what charging takes
abbrev pub session_of : Time → VehiclePlace → ChargerPlace → Vehicle → ChargingOutput → Time → Session
session_of now v c x charge stays =
    record {
      vehicle = v;
      outcome = Charged;
      charger = c;
      plugin = now;
      unplug = now + stays;
      wait = now - x.arrival;
      duration = charge.duration;
      idle = x.idle;
      peak = charge.peak;
      energy = charge.energy;
    }

module _ (p : Plan) where
  unfoldable pub charged_session : Time → VehiclePlace → ChargerPlace → Session
  charged_session now v c = session_of now v c (vehicle p v) (output p v c) (stay p v c)

  -- a plug-in pushes the unplug
  abbrev pub events : Engine Occupant
  events =
      record {
        empty = no_car;
        is_free = is_vacant;
        session = charged_session;
        occupant = λ now v c index. car v;
        pend = λ now v c es. push (unplug (now + stay p v c) v c) es;
      }

  abbrev pub pop_first : List Event → State → State
  pop_first [] s = s
  pop_first (e ∷ es) s = record { site = popped p events e es s.site; handled = s.handled + 1 }

  unfoldable pub step : State → State
  step s = pop_first s.site.pending s

  abbrev pub start : State
  start = record { site = initial p events; handled = 0 }

  -- the state after up to n events
  abbrev pub after : ℕ → State → State
  after zero s = s
  after (suc n) s = after n (step s)

  abbrev pub run : ℕ → State
  run n = after n start

-- no event is left
abbrev pub ended : State → Bool
ended s = is_empty s.site.pending

-- Rules. The run by steps, as document 01 has it: a round is the events due, the power, the progress, the freed chargers.
use Rattle.std.specs.Prelude.{ℕ, zero, suc, ◌+◌, ◌-◌, Bool, cond, ◌&&◌, List, [], ◌∷◌, pos, nat_le, slice_index_or, slice_set}
use Rattle.std.specs.Float.{binary64}
use Rattle.std.specs.Float.Ieee.{of_int}
use Rattle.curve.specs.F64.{◌⊖◌, ratio}
use Rattle.curve.specs.declared.units.Kw.{Kw}
use Rattle.curve.specs.declared.units.Kwh.{Kwh}
use Rattle.charger.specs.declared.vehicle.Vehicle.{Vehicle}
use Rattle.engine.specs.declared.events.Event.{Event}
use Rattle.engine.specs.declared.session.Session.{Session}
use Rattle.engine.specs.declared.session.Outcome.TheVariants.{Open, Charged}
use Rattle.engine.specs.Plan.{Time, VehiclePlace, ChargerPlace, Plan, vehicle, rated}
use Rattle.engine.specs.SiteState.{Engine, SiteState, is_empty, uncharged, initial, popped, release}
use Rattle.power.specs.declared.charger_state.Status.TheVariants.{Charging}
use Rattle.power.specs.declared.charger_state.ChargerState.{ChargerState}
use Rattle.power.specs.ChargerState.{is_free, is_finished, empty, all_free}
use Rattle.power.specs.Power.{charge}

pub record State : Type 0 where
  pub site : SiteState ChargerState
  pub time : Time

-- `finalize`
unfoldable pub finalized : Time → ChargerState → Session → Session
finalized now s x =
    record {
      vehicle = x.vehicle;
      outcome = Charged;
      charger = x.charger;
      plugin = x.plugin;
      unplug = now;
      wait = x.wait;
      duration = record { 0 = of_int binary64 (pos (now - x.plugin)) ⊖ x.idle.0 };
      idle = x.idle;
      peak = s.peak;
      energy = s.energy;
    }

-- the sessions with that of the charger closed, if it is finished
abbrev pub closed_at : Time → ChargerState → List Session → List Session
closed_at now s xs = cond (is_finished s.status) (slice_set xs s.session (finalized now s (slice_index_or xs s.session (uncharged 0 Open 0)))) xs

-- and those of all finished chargers
abbrev pub closed : Time → List ChargerState → List Session → List Session
closed now [] xs = xs
closed now (s ∷ ss) xs = closed now ss (closed_at now s xs)

-- the chargers that are finished, from the place c on
abbrev pub finished : ChargerPlace → List ChargerState → List ChargerPlace
finished c [] = []
finished c (s ∷ ss) = cond (is_finished s.status) (c ∷ finished (suc c) ss) (finished (suc c) ss)

-- the session of a car that was plugged in
unfoldable pub open_session : Vehicle → Time → VehiclePlace → ChargerPlace → Session
unfolding ratio
open_session x now v c =
    record {
      vehicle = v;
      outcome = Open;
      charger = c;
      plugin = now;
      unplug = 0;
      wait = now - x.arrival;
      duration = record { 0 = ratio 0 1 };
      idle = x.idle;
      peak = record { 0 = ratio 0 1 };
      energy = record { 0 = ratio 0 1 };
    }

-- and the charger's state then: the car with its battery, the rated power of the two, the place of its session
unfoldable pub plugged : Vehicle → Kwh → Kw → VehiclePlace → ℕ → ChargerState
unfolding ratio
plugged x battery power v index =
    record {
      status = Charging;
      vehicle = v;
      profile = x.profile;
      session = index;
      soc = x.start;
      target = x.target;
      battery = battery;
      rated = power;
      requested = record { 0 = ratio 0 1 };
      cap = power;
      idle = x.idle;
      energy = record { 0 = ratio 0 1 };
      peak = record { 0 = ratio 0 1 };
    }

module _ (p : Plan) where
  abbrev pub steps : Engine ChargerState
  steps =
      record {
        empty = empty;
        is_free = λ s. is_free s.status;
        session = λ now v c. open_session (vehicle p v) now v c;
        occupant = λ now v c index. plugged (vehicle p v) (p.battery (vehicle p v).profile) (rated p v c) v index;
        pend = λ now v c es. es;
      }

  -- every event due at `now` is popped
  abbrev pub due : Time → List Event → SiteState ChargerState → SiteState ChargerState
  due now [] f = f
  due now (e ∷ es) f = cond (nat_le e.time now) (due now es (popped p steps e es f)) f

  abbrev pub with_places : List ChargerState → SiteState ChargerState → SiteState ChargerState
  with_places ss f = record { pending = f.pending; queue = f.queue; places = ss; sessions = f.sessions }

  -- the power, then the progress
  abbrev pub powered : SiteState ChargerState → SiteState ChargerState
  powered f = with_places (charge p.limit p.curve f.places) f

  abbrev pub with_closed : Time → SiteState ChargerState → SiteState ChargerState
  with_closed now f =
      record { pending = f.pending; queue = f.queue; places = f.places; sessions = closed now f.places f.sessions }

  abbrev pub release_all : Time → List ChargerPlace → SiteState ChargerState → SiteState ChargerState
  release_all now [] f = f
  release_all now (c ∷ cs) f = release_all now cs (release p steps now c f)

  -- the freed chargers, each with the first fitting vehicle of the queue
  abbrev pub release_finished : Time → SiteState ChargerState → SiteState ChargerState
  release_finished now f = release_all now (finished 0 f.places) f

  unfoldable pub round : State → State
  round s =
      let now = s.time in
      record {
        site = release_finished now (with_closed now (powered (due now s.site.pending s.site)));
        time = now + 1;
      }

  -- the Rust's loop would not go round again
  abbrev pub ended : State → Bool
  ended s = is_empty s.site.pending && (all_free s.site.places && is_empty s.site.queue)

  abbrev pub start : State
  start = record { site = initial p steps; time = 0 }

  -- the state after up to n rounds
  abbrev pub after : ℕ → State → State
  after zero s = s
  after (suc n) s = let more = after n (round s) in cond (ended s) s more

  abbrev pub run : ℕ → State
  run n = after n start

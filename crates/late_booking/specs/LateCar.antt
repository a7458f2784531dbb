-- Rules. A car that is booked while a run by events is unfinished: whether it comes late enough, and a run with it.
use Rattle.std.specs.Prelude.{ℕ, zero, suc, ◌+◌, Bool, true, List, [], ◌∷◌, ◌++◌, ltb}
use Rattle.charger.specs.declared.vehicle.Vehicle.{Vehicle}
use Rattle.engine.specs.declared.events.Event.{Event}
use Rattle.engine.specs.Plan.{Time, VehiclePlace, Plan}
use Rattle.engine.specs.Events.{arrival, renege, push}
use Rattle.engine.specs.SiteState.{with_pending}
use Rattle.engine.specs.Discrete.{State, run}
use Rattle.plan.specs.Bytes.{le_at}
use Rattle.files.specs.Read.{profile_index, vehicle_of}

-- the arrival that a car's block names
abbrev pub arrival_in : List ℕ → Time
arrival_in car = le_at 8 car 40

-- the car of a block, by the plan's profiles
abbrev pub car_of : List ℕ → List ℕ → Vehicle
car_of plan car = vehicle_of car (profile_index plan (le_at 4 car 4))

-- ---- 18: its arrival must lie after the last handled event

-- the time of the event that pops first
abbrev pub first_time : List Event → Time
first_time [] = 0
first_time (e ∷ es) = e.time

-- after n handled events; with none handled any arrival will do
abbrev pub is_later : Plan → ℕ → Time → Bool
is_later p zero t = true
is_later p (suc n) t = ltb (first_time (run p n).site.pending) t

-- ---- the run of a plan with one vehicle more, by the run without it

abbrev pub with_vehicle : Vehicle → Plan → Plan
with_vehicle x p =
    record {
      limit = p.limit;
      curve = p.curve;
      battery = p.battery;
      chargers = p.chargers;
      connectors = p.connectors;
      vehicles = p.vehicles ++ (x ∷ []);
      queue_places = p.queue_places;
    }

-- pending events with those of the vehicle x, whose place is v, in the order in which they pop
abbrev pub joined : VehiclePlace → Vehicle → List Event → List Event
joined v x es = push (renege (x.arrival + x.wait) v) (push (arrival x.arrival v) es)

-- the state with the vehicle yet to arrive, and all else as it is
abbrev pub with_car : VehiclePlace → Vehicle → State → State
with_car v x s = record { site = with_pending (joined v x s.site.pending) s.site; handled = s.handled }

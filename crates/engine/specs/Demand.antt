-- Rules. Demand 3 of a run by document 01's rules after the units used: its words, and its sentences for both engines.
use Rattle.std.specs.Prelude.{◌≡◌, ℕ, ◌+◌, ◌*◌, ◌<◌, ◌≤◌, Bool, true, false, cond, ◌&&◌, List, [], ◌∷◌, length, ◌==◌, nat_eq}
use Rattle.charger.specs.Lists.{count, All}
use Rattle.engine.specs.declared.events.Event.{Event}
use Rattle.engine.specs.declared.events.EventType.{EventType}
use Rattle.engine.specs.declared.events.EventType.TheVariants.{Arrival, Renege, Unplug}
use Rattle.engine.specs.declared.session.Session.{Session}
use Rattle.engine.specs.declared.session.Outcome.{Outcome}
use Rattle.engine.specs.declared.session.Outcome.TheVariants.{Open, Charged, Reneged, Balked}
use Rattle.charger.specs.declared.vehicle.Vehicle.{Vehicle}
use Rattle.engine.specs.Plan.{VehiclePlace, ChargerPlace, Plan, vehicle, fits}
use Rattle.engine.specs.SiteState.{free_at}
use Rattle.engine.specs.Discrete as D
use Rattle.engine.specs.Timestep as T

abbrev pub is_arrival : EventType → Bool
is_arrival Arrival = true
is_arrival Renege = false
is_arrival Unplug = false

abbrev pub is_unplug : EventType → Bool
is_unplug Arrival = false
is_unplug Renege = false
is_unplug Unplug = true

-- the event is the arrival of a vehicle that passes the test: until it is popped such a vehicle is yet to arrive
abbrev pub arrives : (VehiclePlace → Bool) → Event → Bool
arrives test e = is_arrival e.kind && test e.vehicle

-- the event is an unplug at the charger
abbrev pub unplugs : ChargerPlace → Event → Bool
unplugs c e = is_unplug e.kind && c == e.charger

-- the session is one of a vehicle that passes the test
abbrev pub has : (VehiclePlace → Bool) → Session → Bool
has test x = test x.vehicle

-- document 01's number for each outcome
abbrev pub outcome_number : Outcome → ℕ
outcome_number Open = 0
outcome_number Charged = 1
outcome_number Reneged = 2
outcome_number Balked = 3

abbrev pub of_outcome : ℕ → Session → Bool
of_outcome k x = outcome_number x.outcome == k

-- outcomes 1 to 3 are closed
abbrev pub is_closed : Outcome → Bool
is_closed Open = false
is_closed Charged = true
is_closed Reneged = true
is_closed Balked = true

-- outcomes 0 and 1 are those of a car that was plugged in
abbrev pub has_charger : Outcome → Bool
has_charger Open = true
has_charger Charged = true
has_charger Reneged = false
has_charger Balked = false

-- the session is one of a car that was plugged in at the charger
abbrev pub plugged_at : ChargerPlace → Session → Bool
plugged_at c x = has_charger x.outcome && c == x.charger

abbrev pub anyone : VehiclePlace → Bool
anyone v = true

-- how many vehicles that pass the test are in some spot: yet to arrive, queued, or in a session
abbrev pub spots : (VehiclePlace → Bool) → List Event → List VehiclePlace → List Session → ℕ
spots test pending queue sessions = count (arrives test) pending + count test queue + count (has test) sessions

abbrev pub yet_to_arrive : List Event → ℕ
yet_to_arrive pending = count (arrives anyone) pending

-- how many sessions have the outcome of that number
abbrev pub sessions_with : ℕ → List Session → ℕ
sessions_with k sessions = count (of_outcome k) sessions

-- the second list has each closed session of the first, unchanged and at the same index
pub data Kept : List Session → List Session → Type 0 where
  longer : {ys : List Session} → Kept [] ys
  keeps : {x y : Session} {xs ys : List Session} → (is_closed x.outcome ≡ true → y ≡ x) → Kept xs ys → Kept (x ∷ xs) (y ∷ ys)

-- ---- "free", by the history of the charger: look at the last car that was plugged in there

pub data LastCar : Type 0 where
  nobody : LastCar
  last_car : Session → LastCar

-- the last of some sessions at the charger, or `sofar` where none is there
abbrev pub last_at : ChargerPlace → LastCar → List Session → LastCar
last_at c sofar [] = sofar
last_at c sofar (x ∷ xs) = last_at c (cond (plugged_at c x) (last_car x) sofar) xs

-- the event is the unplug of the session's car
abbrev pub unplug_of : Session → Event → Bool
unplug_of x e = unplugs x.charger e && x.vehicle == e.vehicle

-- by events: no car was ever plugged in there, or the unplug of the last car there was popped
abbrev pub free_by_events : List Event → LastCar → Bool
free_by_events pending nobody = true
free_by_events pending (last_car x) = count (unplug_of x) pending == 0

-- by steps: no car was ever plugged in there, or a round has freed the charger since the last car, which closed its session
abbrev pub free_by_steps : LastCar → Bool
free_by_steps nobody = true
free_by_steps (last_car x) = is_closed x.outcome

-- A run at its stop: the units used, whether it has ended, the events not yet handled, the queue, the sessions, which chargers
-- are free by their history, and which ones the engine takes for free.
pub record Stop : Type 0 where
  pub used : ℕ
  pub ended : Bool
  pub pending : List Event
  pub queue : List VehiclePlace
  pub sessions : List Session
  pub free : ChargerPlace → Bool
  pub vacant : ChargerPlace → Bool

-- of a run by events, from the state that it has come to
abbrev pub stop_at : Plan → D.State → Stop
stop_at p s =
    record {
      used = s.handled;
      ended = D.ended s;
      pending = s.site.pending;
      queue = s.site.queue;
      sessions = s.site.sessions;
      free = λ c. free_by_events s.site.pending (last_at c nobody s.site.sessions);
      vacant = free_at p (D.events p) s.site.places;
    }

abbrev pub by_events : Plan → ℕ → Stop
by_events p n = stop_at p (D.run p n)

-- and of a run by steps
abbrev pub step_stop_at : Plan → T.State → Stop
step_stop_at p s =
    record {
      used = s.time;
      ended = T.ended p s;
      pending = s.site.pending;
      queue = s.site.queue;
      sessions = s.site.sessions;
      free = λ c. free_by_steps (last_at c nobody s.site.sessions);
      vacant = free_at p (T.steps p) s.site.places;
    }

abbrev pub by_steps : Plan → ℕ → Stop
by_steps p n = step_stop_at p (T.run p n)

-- a session's wait is exact: from the arrival to the plug-in, the longest wait of a vehicle that reneged, none of one that balked
abbrev pub WaitedBy : Outcome → Vehicle → Session → Type 0
WaitedBy Open v x = v.arrival + x.wait ≡ x.plugin
WaitedBy Charged v x = v.arrival + x.wait ≡ x.plugin
WaitedBy Reneged v x = x.wait ≡ v.wait
WaitedBy Balked v x = x.wait ≡ 0

abbrev pub Waited : Plan → Session → Type 0
Waited p x = WaitedBy x.outcome (vehicle p x.vehicle) x

-- ---- the sentences, of a run under an allowance of n units

-- at most n units are used, and fewer only where the run has ended
abbrev pub UnitsUsed : ℕ → ℕ → Bool → Type 0
UnitsUsed n used ended = (used ≤ n) × (used < n → ended ≡ true)

-- a charger is free by its history just where the engine takes it for free
abbrev pub FreeKnown : Plan → Stop → Type 0
FreeKnown p s = (c : ChargerPlace) → c < length p.chargers → s.free c ≡ s.vacant c

-- no free charger fits a queued vehicle
abbrev pub NoFreeFits : Plan → Stop → Type 0
NoFreeFits p s = (c : ChargerPlace) → c < length p.chargers → s.free c ≡ true → All (λ v. fits p v c ≡ false) s.queue

-- each vehicle is yet to arrive, queued or in exactly one session, never in two
abbrev pub OneSpot : Plan → Stop → Type 0
OneSpot p s = (v : VehiclePlace) → v < length p.vehicles → spots (nat_eq v) s.pending s.queue s.sessions ≡ 1

-- vehicles = yet to arrive + queued + (open + charged + reneged + balked)
abbrev pub AddUp : ℕ → ℕ → ℕ → ℕ → ℕ → ℕ → ℕ → Type 0
AddUp vehicles yet queued opened charged reneged balked = yet + queued + (opened + charged + reneged + balked) ≡ vehicles

-- every wait is exact
abbrev pub ExactWaits : Plan → Stop → Type 0
ExactWaits p s = All (Waited p) s.sessions

-- by events, at every stop: handled + pending = 2 × vehicles + charged
abbrev pub Handled : ℕ → ℕ → ℕ → ℕ → Type 0
Handled vehicles handled pending charged = handled + pending ≡ 2 * vehicles + charged

-- by events three units for each vehicle are enough to end; once ended, handled = 2 × vehicles + charged, and nobody is queued
abbrev pub EventsEnd : ℕ → ℕ → ℕ → Bool → ℕ → ℕ → Type 0
EventsEnd vehicles n handled ended charged queued =
    (3 * vehicles ≤ n → ended ≡ true) × (ended ≡ true → handled ≡ 2 * vehicles + charged) × (ended ≡ true → queued ≡ 0)

-- a run by steps that has ended has no open session
abbrev pub StepsEnd : Bool → ℕ → Type 0
StepsEnd ended opened = ended ≡ true → opened ≡ 0

pub record Demand (p : Plan) (n : ℕ) (s : Stop) : Type 0 where
  pub units : UnitsUsed n s.used s.ended
  pub free_known : FreeKnown p s
  pub no_free_fits : NoFreeFits p s
  pub one_spot : OneSpot p s
  pub add_up :
      AddUp (length p.vehicles) (yet_to_arrive s.pending) (length s.queue)
      (sessions_with 0 s.sessions) (sessions_with 1 s.sessions) (sessions_with 2 s.sessions) (sessions_with 3 s.sessions)
  pub waits : ExactWaits p s

-- and of a run by events
pub record EventDemand (p : Plan) (n : ℕ) (s : Stop) : Type 0 where
  pub handled : Handled (length p.vehicles) s.used (length s.pending) (sessions_with 1 s.sessions)
  pub ends : EventsEnd (length p.vehicles) n s.used s.ended (sessions_with 1 s.sessions) (length s.queue)

-- and of a run by steps
pub record StepDemand (s : Stop) : Type 0 where
  pub ends : StepsEnd s.ended (sessions_with 0 s.sessions)

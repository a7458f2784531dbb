-- Refinement: what the functions of the step engine come to, in the model's words.
use Rattle.std.specs.Prelude.{◌≡◌, ℕ, ◌+◌, ◌-◌, ◌<◌, ◌≤◌, Bool, false, cond, length}
use Rattle.charger.specs.Lists.{count, All}
use Rattle.charger.specs.Code.Queue.{waiting}
use Rattle.charger.specs.Code.Vehicles.{listed}
use Rattle.power.specs.declared.charger_state.ChargerState.{ChargerState}
use Rattle.engine.specs.declared.plug_in.State.{State}
use Rattle.engine.specs.declared.site.Site.{Site}
use Rattle.engine.specs.declared.site.Simulation.{Simulation}
use Rattle.engine.specs.declared.timestep.StepRun.{StepRun}
use Rattle.engine.specs.Plan.{Plan}
use Rattle.engine.specs.SiteState.{SiteState, release}
use Rattle.engine.specs.Timestep as Timestep
use Rattle.engine.specs.Timestep.{steps, ended, after, run}
use Rattle.engine.specs.Demand.{is_unplug, arrives, anyone}
use Rattle.engine.specs.Code.Simulation.{pending, booked, site_state, plan_of}

-- the state of the site, with what stands at its chargers
abbrev pub held : State → SiteState ChargerState
held s = site_state s.simulation s.bank.items

-- the model's state
abbrev pub step_state : State → ℕ → Timestep.State
step_state s now = record { site = held s; time = now }

-- profiles whose places fit a byte
pub record SiteWithin (site : Site) : Type 0 where
  pub profiles : All (λ x. x.profile < 16) (listed site.vehicles)

-- Everybody who is yet to arrive or queued has room for a session, and `more` besides, and a place among 64. No unplug is
-- pending: by steps a charger is freed by its own count.
pub record RoomFor (more : ℕ) (s : Simulation) : Type 0 where
  pub account : count (arrives anyone) (pending s.events) + length (waiting s.queue) + length (booked s.sessions) + more ≤ 64
  pub kinds : All (λ e. is_unplug e.kind ≡ false) (pending s.events)
  pub coming : All (λ e. e.vehicle < 64) (pending s.events)
  pub waits : All (λ v. v < 64) (waiting s.queue)

-- a state that a run of the site's plan may have, in which there is room for `more` besides
pub record Running (site : Site) (more : ℕ) (s : State) : Type 0 where
  pub within : SiteWithin site
  pub room : RoomFor more s.simulation
  pub places : length s.bank.items ≡ length site.chargers.items

-- `change` took the state s to r
pub record Changes (site : Site) (change : Plan → SiteState ChargerState → SiteState ChargerState) (s r : State) : Type 0 where
  pub state : held r ≡ change (plan_of site) (held s)
  pub fit : Running site 0 r
  pub events : r.simulation.events ≡ s.simulation.events

-- the charger at c is released, if it is finished
abbrev pub released_if : Bool → ℕ → ℕ → Plan → SiteState ChargerState → SiteState ChargerState
released_if b now c p f = cond b (release p (steps p) now c f) f

-- a run of up to `last - now` rounds from s goes on as one from r, later
pub record GoesOn (site : Site) (last now : ℕ) (s : State) (then : ℕ) (r : State) : Type 0 where
  pub later : now < then
  pub within : then ≤ last
  pub fit : Running site 0 r
  pub same : after (plan_of site) (last - now) (step_state s now) ≡ after (plan_of site) (last - then) (step_state r then)

-- what `rounds` leaves
pub record RoundsDone (site : Site) (count : ℕ) (s r : StepRun) : Type 0 where
  pub state : step_state r.state r.time ≡ after (plan_of site) count (step_state s.state s.time)
  pub is_ended : r.ended ≡ ended (plan_of site) (step_state r.state r.time)
  pub fit : Running site 0 r.state

-- what `run` answers: the model's run, and whether it has ended
pub record RunDone (site : Site) (allowance : ℕ) (r : StepRun) : Type 0 where
  pub state : step_state r.state r.time ≡ run (plan_of site) allowance
  pub is_ended : r.ended ≡ ended (plan_of site) (run (plan_of site) allowance)
  pub fit : Running site 0 r.state

-- The run's loop: what it has come to stands for the whole run.
use Rattle.std.proofs.Common.{◌≡◌, ℕ, ◌+◌, ◌-◌, ◌≤◌, Bool, true, sym, ap, ◌∙◌, arith}
use Rattle.engine.specs.declared.plug_in.State.{State}
use Rattle.engine.specs.declared.site.Site.{Site}
use Rattle.engine.specs.declared.timestep.StepRun.{StepRun}
use Rattle.engine.specs.Timestep.{ended, start, after}
use Rattle.engine.specs.Code.Simulation.{plan_of}
use Rattle.engine.specs.Code.Steps.{Running, step_state, GoesOn, RoundsDone, RunDone}
use Rattle.engine.proofs.timestep.RunMoves.{stays}

module _ (site : Site) (count : ℕ) (s : StepRun) where
  pub record Going (r : StepRun) : Type 0 where
    pub within : r.time ≤ s.time + count
    pub fit : Running site 0 r.state
    pub same : after (plan_of site) (s.time + count - r.time) (step_state r.state r.time) ≡ after (plan_of site) count (step_state s.state s.time)

  pub going_start : Running site 0 s.state → Going s
  going_start f =
      let all : s.time + count - s.time ≡ count = omega arith in
      record { within = omega arith; fit = f; same = rw all }

  module _ {r : StepRun} (g : Going r) where
    pub going_on : (over : Bool) {then : ℕ} {x : State} → GoesOn site (s.time + count) r.time r.state then x → Going (record { state = x; time = then; ended = over })
    going_on over w = record { within = w.within; fit = w.fit; same = sym w.same ∙ g.same }

    pub going_ended : ended (plan_of site) (step_state r.state r.time) ≡ true → RoundsDone site count s (record { state = r.state; time = r.time; ended = true })
    going_ended e =
        record { state = sym (stays (plan_of site) (s.time + count - r.time) (step_state r.state r.time) e) ∙ g.same; is_ended = sym e; fit = g.fit }

    pub going_out : {over : Bool} → s.time + count ≤ r.time → over ≡ ended (plan_of site) (step_state r.state r.time) → RoundsDone site count s (record { state = r.state; time = r.time; ended = over })
    going_out h e =
        let none : s.time + count - r.time ≡ 0 = omega arith in
        record { state = rw none at g.same; is_ended = e; fit = g.fit }

-- a run from the start
pub finishes : (site : Site) (allowance : ℕ) {s r : StepRun} → step_state s.state s.time ≡ start (plan_of site) → RoundsDone site allowance s r → RunDone site allowance r
finishes site allowance e w =
    let whole = w.state ∙ ap (after (plan_of site) allowance) e in
    record { state = whole; is_ended = w.is_ended ∙ ap (ended (plan_of site)) whole; fit = w.fit }

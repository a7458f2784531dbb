-- Refinement: a plan that was read into the program's structs.
use Rattle.std.specs.Prelude.{ℕ, ◌≤◌, ◌+◌, ◌*◌, ◌≡◌, List, length, Result, Ok, Err, MatchResult}
use Rattle.engine.specs.declared.site.Site.{Site}
use Rattle.engine.specs.Code.Simulation.{plan_of}
use Rattle.plan.specs.Plan.{check_blocks}
use Rattle.plan.specs.Places.{profile_count, charger_count, vehicle_count}
use Rattle.plan.specs.declared.answer.Refusal.{Refusal}
use Rattle.files.specs.Read.{read_plan}
use Rattle.files.specs.Check.{check_plan}

-- a plan that is its header and as many blocks as the header says, no more of a kind than a plan can have
pub record Counted (plan : List ℕ) : Type 0 where
  pub profiles : profile_count plan ≤ 16
  pub chargers : charger_count plan ≤ 32
  pub vehicles : vehicle_count plan ≤ 64
  pub blocks : length plan ≡ 512 * (1 + profile_count plan + charger_count plan + vehicle_count plan)

-- the plan's blocks are fine
abbrev pub Admitted : List ℕ → Type 0
Admitted plan = check_blocks plan ≡ Ok tt

-- the plan is fine, and the site holds all that the engines read of it
pub record Loaded (plan : List ℕ) (site : Site) : Type 0 where
  pub fine : check_plan plan ≡ Ok tt
  pub admitted : Admitted plan
  pub read : plan_of site ≡ read_plan plan

-- what reading a plan into a site answers: that it is fine and was read, or the refusal of its check
abbrev pub Reads : List ℕ → Site → Result (Unit {0}) Refusal → Type 0
Reads plan site answer = MatchResult answer (λ _. Loaded plan site) (λ refusal. check_plan plan ≡ Err refusal)

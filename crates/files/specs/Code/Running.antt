-- Refinement: what the engines ask of a site, and what a run leaves at its stop.
use Rattle.std.specs.Prelude.{◌≡◌, ◌<◌, ◌≤◌, ℕ, List, length, Result, MatchResult}
use Rattle.charger.specs.Lists.{All, tick}
use Rattle.charger.specs.Code.Vehicles.{listed}
use Rattle.engine.specs.Code.Simulation.{InTime}
use Rattle.engine.specs.declared.site.Site.{Site}
use Rattle.engine.specs.Demand.{Stop}
use Rattle.plan.specs.declared.answer.Totals.{Totals}
use Rattle.plan.specs.declared.answer.Refusal.{Refusal}
use Rattle.plan.specs.declared.answer.Refusal.TheVariants.{EngineAbove}
use Rattle.files.specs.declared.engines.Engine.{Engine}
use Rattle.files.specs.declared.engines.Engine.TheVariants.{Events, Steps}
use Rattle.files.specs.BookSession.{book_sessions}
use Rattle.files.specs.Book.{written, ReadBack}
use Rattle.files.specs.Call.{totals, book_of}

-- what the engines ask of a site, as the plan's checks give it
pub record Runnable (site : Site) : Type 0 where
  pub vehicles : length (listed site.vehicles) ≤ 64
  pub times : All InTime (listed site.vehicles)
  pub profiles : All (λ x. x.profile < 16) (listed site.vehicles)

-- the totals of a run at its stop, and its book
pub record Stopped (plan : List ℕ) (engine : ℕ) (s : Stop) (old : List ℕ) (counts : Totals) (new : List ℕ) : Type 0 where
  pub counted : counts ≡ totals s
  pub book : new ≡ written (book_of plan engine s) old
  pub back : ReadBack engine (tick s.ended) s.used (book_sessions plan s.sessions) new

-- document 01's number for each engine
abbrev pub engine_number : Engine → ℕ
engine_number Events = 0
engine_number Steps = 1

-- the engine that has the number, or the refusal of a number above 1
abbrev pub EngineOf : ℕ → Result Engine Refusal → Type 0
EngineOf number r = MatchResult r (λ e. engine_number e ≡ number) (λ refusal. (1 < number) × (refusal ≡ EngineAbove))

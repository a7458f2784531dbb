-- Rules. Request 13, hot-day rating, as the calls promise it: of a plan that is fine, and of the book of its run by events.
use Rattle.std.specs.Prelude.{◌≡◌, true, List, ℕ, Result, Ok, Err}
use Rattle.charger.specs.Lists.{All}
use Rattle.engine.specs.Plan.{VehiclePlace, ChargerPlace, fits, output}
use Rattle.engine.specs.HotDay.{HotDay}
use Rattle.files.specs.Read.{read_plan}
use Rattle.files.specs.BookSession.{bits, vehicle_number, charger_id}
use Rattle.files.specs.Book.{sessions_in}
use Rattle.files.specs.Demand.{OfRun}
use Rattle.files.specs.declared.book_session.BookSession.{BookSession}
use Rattle.plan.specs.declared.answer.Refusal.{Refusal}
use Rattle.plan.specs.declared.answer.Totals.{Totals}

-- the law holds of what charging takes at every pair that fits
abbrev pub HotDayOfPlan : List ℕ → Result (Unit {0}) Refusal → Type 0
HotDayOfPlan plan (Ok u) = HotDay (read_plan plan)
HotDayOfPlan plan (Err x) = Unit {0}

abbrev pub HotDayOfRun : List ℕ → Result Totals Refusal → Type 0
HotDayOfRun plan = OfRun (λ t. HotDay (read_plan plan))

-- a session of the book: the vehicle and the charger of its ids fit, and its duration, peak and energy have the bits of what charging takes there
pub record ByRating (plan : List ℕ) (x : BookSession) : Type 0 where
  pub vehicle : VehiclePlace
  pub charger : ChargerPlace
  pub vehicle_id : x.vehicle_id ≡ vehicle_number plan vehicle 0
  pub charger_id : x.charger_id ≡ charger_id plan charger
  pub pair : fits (read_plan plan) vehicle charger ≡ true
  pub duration : x.duration ≡ bits (output (read_plan plan) vehicle charger).duration.0
  pub peak : x.peak ≡ bits (output (read_plan plan) vehicle charger).peak.0
  pub energy : x.energy ≡ bits (output (read_plan plan) vehicle charger).energy.0

-- by events every session of outcome 1 in the book is such a one
abbrev pub BookByRating : List ℕ → ℕ → List ℕ → Result Totals Refusal → Type 0
BookByRating plan engine book = OfRun (λ t. engine ≡ 0 → All (λ x. x.outcome ≡ 1 → ByRating plan x) (sessions_in book))

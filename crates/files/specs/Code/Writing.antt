-- Refinement: what is asked of a call that writes the book.
use Rattle.std.specs.Prelude.{ℕ, ◌≤◌, ◌≡◌, Bool, List, length, take}
use Rattle.plan.specs.Places.{charger_count}
use Rattle.engine.specs.declared.session.Session.{Session}
use Rattle.engine.specs.declared.site.Site.{Site}
use Rattle.charger.specs.Code.Vehicles.{listed}
use Rattle.files.specs.Code.Reading.{Counted}
use Rattle.files.specs.Read.{vehicles_of, connector_rows}

-- of the site's rows of connectors as many as the plan counts chargers
abbrev pub rows_of : List ℕ → Site → List (List Bool)
rows_of plan site = take (charger_count plan) site.rows

-- the site's vehicles and connectors are the plan's, and there is room
pub record Writable (plan : List ℕ) (site : Site) (xs : List Session) (book : List ℕ) : Type 0 where
  pub counted : Counted plan
  pub vehicles : listed site.vehicles ≡ vehicles_of plan
  pub connectors : rows_of plan site ≡ connector_rows plan
  pub sessions : length xs ≤ 64
  pub room : 7168 ≤ length book

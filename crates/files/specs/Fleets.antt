-- Rules. Request 9, places by fleet, as the calls promise it: by the bytes of the plan and of the book.
use Rattle.std.specs.Prelude.{◌≡◌, List, ℕ, ◌+◌, ◌≤◌, ◌<◌, eqb, get_or, Result}
use Rattle.charger.specs.Lists.{count}
use Rattle.engine.specs.Plan.{VehiclePlace}
use Rattle.engine.specs.Fleets as E
use Rattle.plan.specs.Bytes.{le_at}
use Rattle.plan.specs.Places.{vehicle_count, vehicle_block}
use Rattle.files.specs.Read.{read_plan}
use Rattle.files.specs.Book.{session_count, book_offset}
use Rattle.files.specs.Call.{stop_of}
use Rattle.files.specs.Demand.{OfRun}
use Rattle.plan.specs.declared.answer.Refusal.{Refusal}
use Rattle.plan.specs.declared.answer.Totals.{Totals}

-- vehicle bytes 60–61 name a fleet
abbrev pub fleet_of : List ℕ → VehiclePlace → ℕ
fleet_of plan v = le_at 2 (vehicle_block plan v) 60

-- header bytes 24–87 give the queue places of fleets 1–64
abbrev pub queue_places_at : List ℕ → ℕ → ℕ
queue_places_at plan fleet = get_or plan (23 + fleet) 0

module _ (plan : List ℕ) (engine n : ℕ) where
  -- no fleet's queue ever exceeds its places
  abbrev pub FleetsWithin : Result Totals Refusal → Type 0
  FleetsWithin =
      OfRun
      (λ t. (fleet : ℕ) → 1 ≤ fleet → fleet ≤ 64
      → count (λ v. eqb (fleet_of plan v) fleet) (stop_of (read_plan plan) engine n).queue ≤ queue_places_at plan fleet)

-- sessions of every outcome carry the fleet at 14–15: that of the vehicle whose id they have
abbrev pub FleetsCarried : List ℕ → List ℕ → Result Totals Refusal → Type 0
FleetsCarried plan book =
    OfRun
    (λ t. (k v : ℕ) → k < session_count book → v < vehicle_count plan → le_at 4 book (book_offset k) ≡ le_at 4 (vehicle_block plan v) 0
    → le_at 2 book (book_offset k + 14) ≡ fleet_of plan v)

-- with every fleet 0 all is as before
abbrev pub AsBefore : List ℕ → Result Totals Refusal → Type 0
AsBefore plan = OfRun (λ t. ((v : ℕ) → v < vehicle_count plan → fleet_of plan v ≡ 0) → E.AsBefore (read_plan plan))

-- A session with a charger has a connector: its code in the book is from 1 to 5.
use mathlib.Core.Path.{◌≡◌, refl}
use mathlib.Core.Bool.{Bool, true, false, false≢true}
use mathlib.Core.List.{List, [], ◌∷◌}
use Prim.Native.Nat.{ℕ, zero, suc, ◌-◌, ◌≤◌, ◌<◌}
use native.Mathlib.Omega.{arith}
use borrow.Author.Tests.{leb-true}
use lib.Dec.{leb}
use lib.ListN.{length, get_or, take, replicate}
use Rattle.std.specs.Prelude.{Option}
use Rattle.charger.specs.Connector.{has_code, common, is_connector}
use Rattle.charger.specs.Vehicle.{connector_of, compatible, vehicle_at}
use Rattle.charger.proofs.Lists.{and_true, all_default, by_test}
use Rattle.engine.specs.declared.session.Session.{Session}
use Rattle.engine.specs.Plan.{row_at, fits}
use Rattle.engine.specs.Demand.{has_charger}
use Rattle.engine.proofs.site.Fitted.{Fitted}
use Rattle.plan.specs.Places.{charger_count, charger_block}
use Rattle.plan.proofs.SearchLaws.{all_each}
use Rattle.files.specs.Read.{row_of_charger, connector_rows, vehicles_of, read_plan}
use Rattle.files.specs.BookSession.{code_of}

-- past its end a row has no connector
in_row : (row : List Bool) (i : ℕ) → get_or row i false ≡ true → i < length row
in_row [] i h = absurd (false≢true h)
in_row (b ∷ row) zero h = omega arith
in_row (b ∷ row) (suc i) h = omega (arith, in_row row i h)

has_code_lem : (row : List Bool) (k : ℕ) → length row ≡ 5 → has_code row k ≡ true → (1 ≤ k) × (k ≤ 5)
has_code_lem row k l h =
    let both = and_true (leb 1 k) (get_or row (k - 1) false) h in
    omega (arith, leb-true 1 k both.0, in_row row (k - 1) both.1)

-- a connector in common has a code from 1 to 5
pub common_code : (row : List Bool) (ks : List ℕ) → length row ≡ 5 → is_connector (common row ks) ≡ true → (1 ≤ code_of (common row ks)) × (code_of (common row ks) ≤ 5)
common_code row [] l h = absurd (false≢true h)
common_code row (k ∷ ks) l h =
    by_test (λ (x : Option ℕ). is_connector x ≡ true → (1 ≤ code_of x) × (code_of x ≤ 5)) (has_code row k) (λ t n. has_code_lem row k l t) (λ f n. common_code row ks l n) h

row-length : (plan : List ℕ) (c : ℕ) → length (row_at (connector_rows plan) c) ≡ 5
unfolding connector_rows
row-length plan c =
    all_default {P = λ row. length row ≡ 5} (connector_rows plan) c (replicate 5 false) refl
    (all_each (λ j. row_of_charger (charger_block plan j)) 0 (charger_count plan) (λ i a b. refl))

pub connector_present : (plan : List ℕ) (x : Session) → Fitted (read_plan plan) x → has_charger x.outcome ≡ true
    → let k = code_of (connector_of (row_at (connector_rows plan) x.charger) (vehicle_at (vehicles_of plan) x.vehicle)) in
    (1 ≤ k) × (k ≤ 5)
unfolding fits compatible
connector_present plan x f h =
    let car = vehicle_at (vehicles_of plan) x.vehicle in
    common_code (row_at (connector_rows plan) x.charger) (take car.count car.codes) (row-length plan x.charger) (f h)

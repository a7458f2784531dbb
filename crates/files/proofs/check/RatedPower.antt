-- A pair that fits is one of the plan, and its rated power is above 0 where the charger is within its limits. Assumes nothing.
use mathlib.Core.Path.{◌≡◌, refl, sym, ap, ◌∙◌}
use mathlib.Core.Bool.{Bool, true, false, false≢true, and-false}
use mathlib.Core.List.{List, [], ◌∷◌}
use Prim.Native.Nat.{ℕ, zero, suc, ◌-◌, ◌*◌, ◌<◌}
use native.Mathlib.Nat.{mul-pos, zero-mul}
use native.Mathlib.Omega.{arith}
use borrow.Author.Tests.{ltb-true, ltb-false}
use lib.Dec.{T, ltb, leb, ltb→lt, lt→ltb}
use lib.ListN.{length, get_or, take, replicate, get_or-eq_default}
use lib.Ieee.{Float, nan, inf, fin, up, down, lt}
use lib.Ieee.Fits.{up_pos}
use lib.Ieee.Positive.{above}
use Rattle.curve.specs.F64.{ratio}
use Rattle.charger.specs.Connector.{common, is_connector, has_code}
use Rattle.charger.specs.Vehicle.{compatible, connector_of, no_vehicle}
use Rattle.charger.specs.Charger.{current_of, with_current, actual_max_power, power_by}
use Rattle.charger.specs.declared.charger.Charger.{Charger}
use Rattle.std.specs.Prelude.{Option, Some, None}
use Rattle.charger.specs.declared.vehicle.Vehicle.{Vehicle}
use Rattle.engine.specs.Plan.{Plan, row_at, charger_at, fits, rated, vehicle}
use Rattle.charger.specs.Leads.{ChargerWithin}
use Rattle.charger.proofs.charger.Leads.{current_drawn, power_above}

-- ---- a pair that fits is one of the plan
no_flag : (j : ℕ) → get_or (replicate 5 false) j false ≡ false
no_flag zero = refl
no_flag (suc zero) = refl
no_flag (suc (suc zero)) = refl
no_flag (suc (suc (suc zero))) = refl
no_flag (suc (suc (suc (suc zero)))) = refl
no_flag (suc (suc (suc (suc (suc j))))) = get_or-eq_default (replicate 5 false) false {n = suc (suc (suc (suc (suc j))))} (omega arith)

no_code : (k : ℕ) → has_code (replicate 5 false) k ≡ false
no_code k = rw (no_flag (k - 1)) (and-false (leb 1 k))

no_connector : (ks : List ℕ) → common (replicate 5 false) ks ≡ None
no_connector [] = refl
no_connector (k ∷ ks) = rw (no_code k) (no_connector ks)

module _ (p : Plan) (v c : ℕ) (h : fits p v c ≡ true) where
  pub vehicle_inside : v < length p.vehicles
  unfolding fits compatible
  vehicle_inside = go (ltb v (length p.vehicles)) refl
    where
      go : (t : Bool) → ltb v (length p.vehicles) ≡ t → v < length p.vehicles
      go true e = ltb-true v (length p.vehicles) e
      go false e =
          let past : vehicle p v ≡ no_vehicle = get_or-eq_default p.vehicles no_vehicle {n = v} (ltb-false v (length p.vehicles) e) in
          absurd (false≢true (sym (ap (λ (x : Vehicle). is_connector (connector_of (row_at p.connectors c) x)) past) ∙ h))

  pub row_inside : c < length p.connectors
  unfolding fits compatible
  row_inside = go (ltb c (length p.connectors)) refl
    where
      go : (t : Bool) → ltb c (length p.connectors) ≡ t → c < length p.connectors
      go true e = ltb-true c (length p.connectors) e
      go false e =
          let past : row_at p.connectors c ≡ replicate 5 false = get_or-eq_default p.connectors (replicate 5 false) {n = c} (ltb-false c (length p.connectors) e) in
          let x = vehicle p v in
          absurd (false≢true (sym (ap is_connector (ap (λ (row : List Bool). connector_of row x) past ∙ no_connector (take x.count x.codes))) ∙ h))

-- ---- its rated power
above_zero : (x : Float) → T (above x) → T (lt (ratio 0 1) x)
unfolding ratio lt
above_zero nan h = absurd h
above_zero (inf true) h = absurd h
above_zero (inf false) h = tt
above_zero (fin true m e) h = absurd h
above_zero (fin false m e) h = lt→ltb (0 * down e) (m * up e * 1) (omega (arith, mul-pos (ltb→lt 0 m h) (up_pos e), zero-mul (down e)))

by_connector : (x : Charger) (k : Option ℕ) → is_connector k ≡ true → ChargerWithin x → T (lt (ratio 0 1) (power_by x (with_current x k)).0)
by_connector x (Some code) h w = above_zero (actual_max_power x (current_of x code)).0 (power_above x w (current_of x code) (current_drawn x w code))
by_connector x None h w = absurd (false≢true h)

pub rated-above : (p : Plan) (v c : ℕ) → fits p v c ≡ true → ChargerWithin (charger_at p.chargers c) → T (lt (ratio 0 1) (rated p v c).0)
unfolding fits compatible rated
rated-above p v c h w = by_connector (charger_at p.chargers c) (connector_of (row_at p.connectors c) (vehicle p v)) h w

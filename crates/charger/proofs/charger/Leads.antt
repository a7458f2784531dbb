-- With no caps the rated power goes by the charger's own current, and a cap never raises it.
use mathlib.Core.Path.{◌≡◌, refl, sym, ap, subst, ◌∙◌}
use mathlib.Core.Bool.{Bool, false, cond, true≢false}
use mathlib.Core.List.{List}
use mathlib.Core.Logic.{inl, ⊎_elim}
use Prim.Native.Nat.{ℕ, ◌-◌, ◌≤◌, ◌<◌}
use native.Mathlib.Omega.{arith}
use borrow.Author.Tests.{le-leb}
use lib.ListN.{length, get_or, get_or-eq_default}
use Rattle.std.proofs.lemmas.List.{get_or_default}
use Rattle.std.specs.Prelude.{Option, Some, None}
use lib.Dec.{T, leb}
use lib.Ieee.{Float, binary64, mul, div, le, eq}
use lib.Ieee.Positive.{positive, above, above_of_le, between, mul_mono}
use Rattle.curve.specs.F64.{◌⊗◌, ◌⊘◌, ratio, clear}
use Rattle.curve.specs.Limits.{Within}
use Rattle.curve.specs.declared.units.Amperes.{Amperes}
use Rattle.curve.specs.declared.units.Kw.{Kw}
use Rattle.curve.proofs.float.Clear.{div_clear, mul_clear, least_one}
use Rattle.curve.proofs.float.Monotone.{le_self, div_mono, least_mono, least-below}
use Rattle.charger.specs.declared.charger.Charger.{Charger}
use Rattle.charger.specs.declared.vehicle.Vehicle.{Vehicle}
use Rattle.charger.specs.Charger.{no_cap, is_none, cap_of, current_of, with_current, actual_max_power, power_by, rated_power}
use Rattle.charger.specs.Connector.{is_connector}
use Rattle.charger.specs.Leads.{NoCap, CapWithin, ChargerWithin, uncapped, CapsLower}
use Rattle.charger.specs.Lists.{All}
use Rattle.charger.specs.Vehicle.{connector_of, compatible}
use Rattle.charger.proofs.Lists.{by_cond, by_test, all_default}

-- the cap of a code that has a lead, and of one that has none
pub cap_at : (x : Charger) (code i : ℕ) (d : Amperes) → 1 ≤ code → code ≤ length x.caps → i ≡ code - 1 → get_or x.caps i d ≡ cap_of x code
unfolding cap_of
cap_at x code i d h b e = rw (e, le-leb 1 code h) (get_or_default x.caps (code - 1) d no_cap (omega arith))

pub no_lead : (x : Charger) (code : ℕ) → code ≡ 0 → no_cap ≡ cap_of x code
unfolding cap_of
no_lead x code e = rw e

pub past_leads : (x : Charger) (code : ℕ) → length x.caps < code → no_cap ≡ cap_of x code
unfolding cap_of
past_leads x code h = rw (le-leb 1 code (omega arith)) (sym (get_or-eq_default x.caps no_cap (omega arith)))

-- what holds of every cap, and of none, holds of a lead's
cap_one : (P : Amperes → Type 0) (x : Charger) (code : ℕ) → P no_cap → All P x.caps → P (cap_of x code)
unfolding cap_of
cap_one P x code none all = by_cond P (leb 1 code) (all_default x.caps (code - 1) no_cap none all) none

none_is_none : NoCap no_cap
unfolding eq ratio
none_is_none = refl

same_current : (x : Charger) (code : ℕ) → All NoCap x.caps → current_of x code ≡ x.current
same_current x code all = rw (cap_one NoCap x code none_is_none all)

-- ---- the current through a lead

abbrev pub Drawn : Float → Type 0
Drawn x = Within (ratio 1 1) (ratio 4096 1) x

pub drawn_positive : (x : Float) → Drawn x → T (positive x)
unfolding ratio
drawn_positive x h = between (ratio 1 1) x (ratio 4096 1) tt tt h.low h.high

module _ (x : Charger) (w : ChargerWithin x) (code : ℕ) where
  abbrev cap : Amperes
  cap = cap_of x code

  cap_within : CapWithin cap
  cap_within = cap_one CapWithin x code (inl none_is_none) w.caps

  there : is_none cap ≡ false → Drawn cap.0
  there h = ⊎_elim (λ (none : NoCap cap). absurd (true≢false (sym none ∙ h))) (λ (d : Drawn cap.0). d) cap_within

  pub current_drawn : Drawn (current_of x code).0
  current_drawn = by_test (λ (c : Amperes). Drawn c.0) (is_none cap) (λ h. w.current) (λ h. least_one Drawn cap.0 x.current.0 (there h) w.current)

  current_below : T (le (current_of x code).0 x.current.0)
  current_below =
      by_test (λ (c : Amperes). T (le c.0 x.current.0)) (is_none cap)
      (λ h. le_self x.current.0 w.current.clear)
      (λ h. least-below cap.0 x.current.0 (there h).clear w.current.clear)

-- ---- the power by a current

product_positive : (x y : Float) → Drawn x → Drawn y → T (le (ratio 1 1) (x ⊗ y)) × T (positive (x ⊗ y))
unfolding ratio mul
product_positive x y p q =
    let px = drawn_positive x p in
    let py = drawn_positive y q in
    let low : T (le (ratio 1 1) (x ⊗ y)) = mul_mono binary64 (ratio 1 1) x (ratio 1 1) y tt px tt py p.low q.low in
    let high : T (le (x ⊗ y) (ratio 4096 1 ⊗ ratio 4096 1)) = mul_mono binary64 x (ratio 4096 1) y (ratio 4096 1) px tt py tt p.high q.high in
    (low, between (ratio 1 1) (x ⊗ y) (ratio 4096 1 ⊗ ratio 4096 1) tt tt low high)

watts_above : (x y : Float) → Drawn x → Drawn y → T (above (x ⊗ y ⊘ ratio 1000 1))
unfolding ratio
watts_above x y p q =
    let xy = product_positive x y p q in
    above_of_le (ratio 1 1 ⊘ ratio 1000 1) (x ⊗ y ⊘ ratio 1000 1) (unfold div in tt) (div_mono binary64 (ratio 1 1) (x ⊗ y) (ratio 1000 1) tt xy.1 tt xy.0)

module _ (x : Charger) (w : ChargerWithin x) where
  pub power_above : (current : Amperes) → Drawn current.0 → T (above (actual_max_power x current).0)
  unfolding actual_max_power ratio
  power_above current d =
      least_one (λ z. T (above z)) (current.0 ⊗ x.voltage.0 ⊘ ratio 1000 1) x.max_power.0
      (watts_above current.0 x.voltage.0 d w.voltage) (above_of_le (ratio 1 8) x.max_power.0 tt w.power.low)

  power_mono : (a b : Amperes) → Drawn a.0 → Drawn b.0 → T (le a.0 b.0) → T (le (actual_max_power x a).0 (actual_max_power x b).0)
  unfolding actual_max_power ratio
  power_mono a b p q h =
      let v = x.voltage.0 in
      let pv = drawn_positive v w.voltage in
      let pa = (product_positive a.0 v p w.voltage).1 in
      let pb = (product_positive b.0 v q w.voltage).1 in
      let products : T (le (a.0 ⊗ v) (b.0 ⊗ v)) =
      mul_mono binary64 a.0 b.0 v v (drawn_positive a.0 p) (drawn_positive b.0 q) pv pv h (le_self v w.voltage.clear) in
      let watts : (z : Float) → Drawn z → T (clear (z ⊗ v ⊘ ratio 1000 1)) =
      λ z d. div_clear binary64 (z ⊗ v) (ratio 1000 1) (mul_clear binary64 z v (drawn_positive z d) w.voltage.clear) tt in
      least_mono (a.0 ⊗ v ⊘ ratio 1000 1) (b.0 ⊗ v ⊘ ratio 1000 1) x.max_power.0 x.max_power.0
      (watts a.0 p) (watts b.0 q) w.power.clear w.power.clear
      (div_mono binary64 (a.0 ⊗ v) (b.0 ⊗ v) (ratio 1000 1) pa pb tt products) (le_self x.max_power.0 w.power.clear)

-- ---- the rated power

module _ (x : Charger) (row : List Bool) (vehicle : Vehicle) where
  without : All NoCap x.caps → rated_power x row vehicle ≡ uncapped x row vehicle
  unfolding compatible
  without all = go (connector_of row vehicle)
    where
      go : (k : Option ℕ) → power_by x (with_current x k) ≡ cond (is_connector k) (actual_max_power x x.current) (record { 0 = ratio 0 1 })
      go (Some code) = ap (actual_max_power x) (same_current x code all)
      go None = refl

  lower : ChargerWithin x → T (le (rated_power x row vehicle).0 (uncapped x row vehicle).0)
  unfolding compatible ratio
  lower w = go (connector_of row vehicle)
    where
      go : (k : Option ℕ) → T (le (power_by x (with_current x k)).0 (cond (is_connector k) (actual_max_power x x.current) (record { 0 = ratio 0 1 })).0)
      go (Some code) = power_mono x w (current_of x code) x.current (current_drawn x w code) w.current (current_below x w code)
      go None = unfold le in tt

  -- the law of the caps
  pub caps_lower : CapsLower x row vehicle (rated_power x row vehicle)
  caps_lower = record { without = without; lower = lower }

  -- what the code finds by the rule obeys it
  pub with-law : (r : Kw) → r ≡ rated_power x row vehicle → CapsLower x row vehicle r
  with-law r e = subst (CapsLower x row vehicle) (sym e) caps_lower

-- Laws of watts and kilowatts.
use Rattle.std.proofs.Common.{◌≡◌, ℕ, ◌*◌, ◌/◌, ◌^◌, ◌≤◌, Bool, true, false, cond, T, leb, ℤ, pos, refl, sym, ◌∙◌, zero-le, le-div_iff_mul-le, div-mul-le_self, arith, leb→le, le-leb}
use native.Mathlib.Nat.{div-le_of_le-mul}
use lib.Ieee.{Float, nan, inf, fin, up, down, mul}
use lib.Ieee.Fits.{down_pos}
use Rattle.curve.specs.F64.{◌⊗◌, ratio}
use Rattle.curve.proofs.float.Whole.{whole_quotient}
use Rattle.shares.specs.Watts.{watts_of, kilowatts_of}

-- ---- from 0 to 65,536 kW the watts are the greatest whole number not above 1,000 * m * 2 ^ e
module _ (m : ℕ) (e : ℤ) (h : m * up e ≤ 65536 * down e) where
  watts_is : watts_of (fin false m e) ≡ 1000 * (m * up e) / down e
  unfolding watts_of
  watts_is = rw (le-leb (m * up e) (65536 * down e) h)

  pub not_above : watts_of (fin false m e) * down e ≤ 1000 * (m * up e)
  not_above = rw watts_is (div-mul-le_self (1000 * (m * up e)) (down e))

  pub greatest : (k : ℕ) → k * down e ≤ 1000 * (m * up e) → k ≤ watts_of (fin false m e)
  greatest k t = rw watts_is ((le-div_iff_mul-le (down_pos e)).1 t)

-- whatever the float, at most 65,536,000 W
pub watts_most : (x : Float) → watts_of x ≤ 65536000
unfolding watts_of
watts_most nan = zero-le
watts_most (inf s) = zero-le
watts_most (fin true m e) = zero-le
watts_most (fin false m e) = go (leb (m * up e) (65536 * down e)) (leb→le (m * up e) (65536 * down e))
  where
    go : (b : Bool) → (T b → m * up e ≤ 65536 * down e) → cond b (1000 * (m * up e) / down e) 0 ≤ 65536000
    go true p = let t = p tt in div-le_of_le-mul (down e) (omega arith)
    go false p = zero-le

-- 0.3 kW, as an f64 a little less than 3 / 10, is 299 W; the product rounded as a float is 300
pub three_tenths_lem : watts_of (ratio 3 10) ≡ 299
unfolding watts_of ratio
three_tenths_lem = refl

abbrev three_hundred : Float
three_hundred = fin false 75 (pos 2)

whole : ratio 300 1 ≡ three_hundred
unfolding ratio
whole = refl

product : ratio 1000 1 ⊗ ratio 3 10 ≡ three_hundred
unfolding ratio mul
product = refl

pub three_tenths_product : ratio 1000 1 ⊗ ratio 3 10 ≡ ratio 300 1
three_tenths_product = product ∙ sym whole

-- ---- w watts are the f64 nearest to w / 1,000, for w to 2 ^ 53
pub one_rounding : (w : ℕ) → w ≤ 2 ^ 53 → kilowatts_of w ≡ ratio w 1000
unfolding kilowatts_of
one_rounding w h = whole_quotient w 1000 h (omega arith) (omega arith)

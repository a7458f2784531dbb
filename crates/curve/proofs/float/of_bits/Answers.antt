-- `float::of_bits` meets its contract: the test finds the patterns of a NaN.
use Rattle.std.proofs.Common.{◌≡◌, true, T, sym, refl, ◌∙◌, subst, le-ltb, lt-ltb}
use lib.Ieee.{Float, nan, inf, fin, binary64, is_nan, div, of_bits}
use lib.Ieee.Bits.{nan_bits_is, nan_bits_above}
use Rattle.curve.proofs.float.of_bits.Goals as goal

is-nan : (x : Float) → is_nan x ≡ true → nan ≡ x
unfolding is_nan
is-nan nan h = refl
is-nan (inf s) h = absurd (subst T (sym h) tt)
is-nan (fin s m e) h = absurd (subst T (sym h) tt)

pub float_from_bits-result : goal.float_from_bits-result
float_from_bits-result c = rw (nan_bits_above, le-ltb _ _ c.if-bits-gt9218868437227405312.false) tt

pub returns-then-bits-gt9218868437227405312 : goal.returns-then-bits-gt9218868437227405312
unfolding div of_bits
returns-then-bits-gt9218868437227405312 c =
    is-nan _ (sym (nan_bits_is binary64 c.args.bits) ∙ nan_bits_above binary64 c.args.bits ∙ lt-ltb _ _ c.if-bits-gt9218868437227405312.true)

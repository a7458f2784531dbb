-- `float::to_bits` meets its contract: only a NaN differs from itself.
use Rattle.std.proofs.Common.{◌≡◌, false, not, T, sym, ap, subst}
use lib.Ieee.{Float, binary64, nan, inf, fin, ne, is_nan, to_bits}
use lib.Ieee.Compare.{differs_from_itself}
use Rattle.curve.proofs.float.to_bits.Goals as goal

no_nan : (x : Float) → ne x x ≡ false → T (not (is_nan x))
unfolding ne is_nan
no_nan nan h = subst T h tt
no_nan (inf s) h = tt
no_nan (fin s m e) h = tt

pub float_to_bits-result : goal.float_to_bits-result
float_to_bits-result c = no_nan _ c.if-x.false

pub returns-then-x : goal.returns-then-x
unfolding to_bits
returns-then-x c = sym (ap (to_bits binary64) (differs_from_itself _ (subst T (sym c.if-x.true) tt)))

-- `float::ceil` meets its contract. The tests say that x is from 0 to a week, so that it can be cut to a whole number.
use Rattle.std.proofs.Common.{T, sym, subst, arith}
use lib.Ieee.{of_bits}
use Rattle.curve.specs.F64.{ratio, ceiling}
use Rattle.curve.proofs.float.Week.{below_a_week, not_too_low, not_too_high}
use Rattle.curve.proofs.float.ceil.Goals as goal

pub truncating_f64_to_u64-n-requires : goal.truncating_f64_to_u64-n-requires
unfolding of_bits
truncating_f64_to_u64-n-requires c =
    record { lower_bound = not_too_low _ (subst T (sym c.if-s.true) tt); upper_bound = not_too_high _ (subst T (sym c.if-s-2.true) tt) }

pub overflow_add-result : goal.overflow_add-result
unfolding of_bits
overflow_add-result c =
    omega (arith, c.truncating_f64_to_u64-n.ensures, below_a_week _ (subst T (sym c.if-s-2.true) tt))

pub returns-then-nearest_u64_to_f64-s : goal.returns-then-nearest_u64_to_f64-s
unfolding ceiling of_bits ratio
returns-then-nearest_u64_to_f64-s c =
    simp (c.if-s.true, c.if-s-2.true, ← c.truncating_f64_to_u64-n.ensures, ← c.nearest_u64_to_f64.ensures, c.if-nearest_u64_to_f64-s.true)

pub returns-then-s-2 : goal.returns-then-s-2
unfolding ceiling of_bits ratio
returns-then-s-2 c =
    simp (c.if-s.true, c.if-s-2.true, ← c.truncating_f64_to_u64-n.ensures, ← c.nearest_u64_to_f64.ensures, c.if-nearest_u64_to_f64-s.false)

pub returns-else-s-2 : goal.returns-else-s-2
unfolding ceiling of_bits ratio
returns-else-s-2 c = simp (c.if-s.true, c.if-s-2.false)

pub returns-else-s : goal.returns-else-s
unfolding ceiling of_bits ratio
returns-else-s c = simp c.if-s.false

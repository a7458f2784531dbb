-- A number of seconds from 0 to a week, 604800: it can be cut to a whole number, which is at most a week.
use Rattle.std.proofs.Common.{ℕ, ◌+◌, ◌*◌, ◌/◌, ◌^◌, ◌<◌, ◌≤◌, true, false, ◌||◌, T, eqb, ℤ, pos, zero-le, le_trans, div-lt_iff_lt-mul, arith, eqb→eq, lt→ltb}
use native.Mathlib.Nat.{min-le_left}
use lib.Ieee.{Float, nan, inf, fin, up, down, lt, le, to_unsigned}
use lib.Ieee.Fits.{and_l, down_pos}
use Rattle.curve.proofs.float.Compare.{le_of_test}

abbrev pub week : Float
week = fin false 4725 (pos 7)

-- what `le` says of m * 2 ^ e
pub at_most : (m : ℕ) (e : ℤ) → T (le (fin false m e) week) → m * up e * 1 ≤ 604800 * down e
unfolding le
at_most m e t = le_of_test (m * up e * 1) (604800 * down e) true t

pub below_a_week : (x : Float) → T (le x week) → to_unsigned 64 x ≤ 604800
unfolding to_unsigned le
below_a_week nan t = zero-le
below_a_week (inf true) t = zero-le
below_a_week (inf false) t = absurd t
below_a_week (fin true m e) t = zero-le
below_a_week (fin false m e) t =
    let q : m * up e / down e < 604801 = (div-lt_iff_lt-mul (down_pos e)).1 (omega (arith, at_most m e t, down_pos e)) in
    le_trans (min-le_left _ _) (omega arith)

pub not_too_low : (x : Float) → T (le (fin false 0 (pos 0)) x) → T (lt (fin true 1 (pos 0)) x)
unfolding le
not_too_low nan t = t
not_too_low (inf true) t = t
not_too_low (inf false) t = tt
not_too_low (fin false m e) t = lt→ltb 0 (1 * down e + m * up e * 1) (omega (arith, down_pos e))
not_too_low (fin true m e) t =
    lt→ltb (m * up e * 1) (1 * down e) (omega (arith, down_pos e, eqb→eq (0 * down e) (m * up e * 1) (and_l (eqb (0 * down e) (m * up e * 1)) (false || eqb (0 * down e) 0) t)))

pub not_too_high : (x : Float) → T (le x week) → T (lt x (fin false 1 (pos 64)))
unfolding le
not_too_high nan t = t
not_too_high (inf true) t = tt
not_too_high (inf false) t = t
not_too_high (fin true m e) t = lt→ltb 0 (m * up e * 1 + 2 ^ 64 * down e) (omega (arith, down_pos e))
not_too_high (fin false m e) t = lt→ltb (m * up e * 1) (2 ^ 64 * down e) (omega (arith, at_most m e t, down_pos e))

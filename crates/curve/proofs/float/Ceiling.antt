-- `ceiling` is the least whole number not below: from 0 to a week, x = m * 2 ^ e rounded up is at most k just where x is.
use Rattle.std.proofs.Common.{◌≡◌, ℕ, ◌+◌, ◌*◌, ◌/◌, ◌^◌, ◌<◌, ◌≤◌, Bool, true, false, cond, not, T, ltb, ℤ, pos, sym, refl, subst, true≢false, zero-le, le_trans, le_of_eq, lt_of_lt_of_le, le_of_lt, mul-le-mul_right, mul_comm, div-lt_iff_lt-mul, lt_of_mul-lt-mul_right, mul-lt-mul_of_pos_right, mul_right_comm, arith, ltb→lt, nltb→le, le-ltb, lt-ltb}
use native.Mathlib.Nat.{min-eq_left, div-le_of_le-mul}
use lib.Ieee.{Float, nan, inf, fin, binary64, up, down, lt, le, of_int, to_unsigned}
use lib.Ieee.Fits.{and_r, down_pos}
use lib.Ieee.Bits.{is_true}
use lib.Ieee.Exact.{HasValue}
use lib.Ieee.Back.{round_whole}
use Rattle.curve.specs.F64.{ratio, within, ceiling}
use Rattle.curve.proofs.float.Week.{at_most, below_a_week}

-- a fraction a / b times c / c
scaled : (a b c : ℕ) → 0 < c → ltb (a * c) (b * c) ≡ ltb a b
scaled a b c h = go (ltb a b) (ltb→lt a b) (nltb→le a b)
  where
    go : (x : Bool) → (T x → a < b) → (T (not x) → b ≤ a) → ltb (a * c) (b * c) ≡ x
    go true p q = lt-ltb (a * c) (b * c) (mul-lt-mul_of_pos_right (p tt) h)
    go false p q = le-ltb (a * c) (b * c) (mul-le-mul_right c (q tt))

-- a whole number n against m * 2 ^ e
lt_whole : (y : Float) (n m : ℕ) (e : ℤ) → HasValue y false n 1 → lt y (fin false m e) ≡ ltb (n * down e) (m * up e)
unfolding lt
lt_whole nan n m e v = absurd v
lt_whole (inf s) n m e v = absurd v
lt_whole (fin true k d) n m e v = absurd (true≢false v.0)
lt_whole (fin false k d) n m e v = rw (whole_value (k * up d) n (down d) (down e) v.1) (scaled (n * down e) (m * up e) (down d) (down_pos d))
  where
    whole_value : (a n d e : ℕ) → a * 1 ≡ n * d → a * e ≡ n * e * d
    whole_value a n d e h =
        let b : a ≡ n * d = omega (arith, h) in
        rw b (mul_right_comm n d e)

whole_float : (n : ℕ) → n ≤ 2 ^ 53 → HasValue (of_int binary64 (pos n)) false n 1
unfolding of_int
whole_float n h = round_whole binary64 false n h

whole_part : (m : ℕ) (e : ℤ) → to_unsigned 64 (fin false m e) ≤ 604800 → to_unsigned 64 (fin false m e) ≡ m * up e / down e
unfolding to_unsigned
whole_part m e h = min-eq_left (omega arith)

module _ (m : ℕ) (e : ℤ) (t : T (within (fin false m e))) where
  -- the whole part, or one more
  ceiling_is : ceiling (fin false m e) ≡ cond (ltb (m * up e / down e * down e) (m * up e)) (m * up e / down e + 1) (m * up e / down e)
  unfolding ceiling ratio
  ceiling_is =
      let n = m * up e / down e in
      let x = fin false m e in
      let small : to_unsigned 64 x ≤ 604800 = below_a_week x (and_r (le (ratio 0 1) x) (le x (ratio 604800 1)) t) in
      let cut : to_unsigned 64 x ≡ n = whole_part m e small in
      let fits : n ≤ 2 ^ 53 = omega arith in
      rw (is_true (within x) t, cut, lt_whole (of_int binary64 (pos n)) n m e (whole_float n fits))

  -- x is at most its ceiling, and its ceiling is at most any whole number that x is at most
  pub not_below : m * up e ≤ ceiling (fin false m e) * down e
  not_below = rw ceiling_is (go (ltb (m * up e / down e * down e) (m * up e)) (nltb→le (m * up e / down e * down e) (m * up e)))
    where
      go : (x : Bool) → (T (not x) → m * up e ≤ m * up e / down e * down e) → m * up e ≤ cond x (m * up e / down e + 1) (m * up e / down e) * down e
      go true q = le_of_lt ((div-lt_iff_lt-mul (down_pos e)).0 (omega arith))
      go false q = q tt

  pub least_such : (k : ℕ) → m * up e ≤ k * down e → ceiling (fin false m e) ≤ k
  least_such k h = rw ceiling_is (go (ltb (m * up e / down e * down e) (m * up e)) (ltb→lt (m * up e / down e * down e) (m * up e)))
    where
      go : (x : Bool) → (T x → m * up e / down e * down e < m * up e) → cond x (m * up e / down e + 1) (m * up e / down e) ≤ k
      go true p = let q : m * up e / down e < k = lt_of_mul-lt-mul_right (down e) (lt_of_lt_of_le (p tt) h) in omega arith
      go false p = div-le_of_le-mul (down e) (le_trans h (le_of_eq (mul_comm k (down e))))

-- at most a week, whatever x is
pub ceiling_week : (x : Float) → ceiling x ≤ 604800
unfolding ceiling ratio le lt of_int to_unsigned
ceiling_week nan = zero-le
ceiling_week (inf true) = zero-le
ceiling_week (inf false) = zero-le
ceiling_week (fin true m e) = go (within (fin true m e))
  where
    go : (b : Bool) → cond b 0 0 ≤ 604800
    go true = zero-le
    go false = zero-le
ceiling_week (fin false m e) = go (within (fin false m e)) refl
  where
    go : (b : Bool) → within (fin false m e) ≡ b → ceiling (fin false m e) ≤ 604800
    go true s =
        let t : T (within (fin false m e)) = subst T (sym s) tt in
        least_such m e t 604800 (omega (arith, at_most m e (and_r (le (ratio 0 1) (fin false m e)) (le (fin false m e) (ratio 604800 1)) t)))
    go false s = rw s zero-le

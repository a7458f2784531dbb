-- Sums, products, quotients, the smaller and the larger of floats with a clear sign keep the order, as they are rounded.
use Rattle.std.proofs.Common.{◌≡◌, ℕ, ◌+◌, ◌*◌, ◌≤◌, Bool, true, false, cond, ◌||◌, T, ℤ, pos, sym, refl, subst, true≢false, zero-le, le_refl, add-le-add, mul-le-mul_right, mul_assoc, mul_comm, add-mul, mul-pos, zero-mul, mul_left_comm, ltb→lt}
use lib.Ieee.{Float, nan, inf, fin, Format, up, down, add, mul, div, lt, le}
use lib.Ieee.Fits.{up_pos, down_pos}
use lib.Ieee.Order.{round_mono}
use lib.Ieee.Positive.{positive}
use Rattle.curve.specs.F64.{least, greatest, clear}
use Rattle.curve.proofs.float.Compare.{cross, le_inf, fin_le, le_trans_clear, le_of_lt, le_of_not_lt, number}
use Rattle.curve.proofs.float.Clear.{add_clear, mul_clear, not_zero, own}

-- ---- the order itself
pub le_self : (x : Float) → T (clear x) → T (le x x)
le_self nan p = absurd p
le_self (inf true) p = absurd p
le_self (inf false) p = le_inf (inf false) tt
le_self (fin true m e) p = absurd p
le_self (fin false m e) p = fin_le m e m e (le_refl (m * up e * down e))

pub zero_below : (x : Float) → T (clear x) → T (le (fin false 0 (pos 0)) x)
zero_below nan p = absurd p
zero_below (inf true) p = absurd p
zero_below (inf false) p = le_inf (fin false 0 (pos 0)) tt
zero_below (fin true m e) p = absurd p
zero_below (fin false m e) p = fin_le 0 (pos 0) m e (subst (λ (z : ℕ). z ≤ m * up e * 1) (sym (zero-mul (down e))) zero-le)

-- not below, and not at most
pub at_least : (x y : Float) → T (clear x) → T (clear y) → lt x y ≡ false → T (le y x)
at_least x y p q = le_of_not_lt x y (number x p) (number y q)

pub or_false : (a b : Bool) → (a || b) ≡ false → (a ≡ false) × (b ≡ false)
or_false true b t = absurd (true≢false t)
or_false false b t = (refl, t)

pub not_le : (x y : Float) → T (clear x) → T (clear y) → le x y ≡ false → T (le y x)
unfolding le
not_le x y p q t = at_least x y p q (or_false (lt x y) _ t).0

-- ---- sums
-- fractions: with X / a ≤ X' / a' and Y / b ≤ Y' / b' the sums stand so too
sum_of_fractions : (X a Y b X' a' Y' b' : ℕ) → X * a' ≤ X' * a → Y * b' ≤ Y' * b → (X * b + Y * a) * (a' * b') ≤ (X' * b' + Y' * a') * (a * b)
sum_of_fractions X a Y b X' a' Y' b' h k =
    let p : X * b * (a' * b') ≤ X' * b' * (a * b) = simp (mul_assoc, mul_comm, mul_left_comm) (simp (mul_assoc, mul_comm, mul_left_comm) at (mul-le-mul_right (b * b') h)) in
    let q : Y * a * (a' * b') ≤ Y' * a' * (a * b) = simp (mul_assoc, mul_comm, mul_left_comm) (simp (mul_assoc, mul_comm, mul_left_comm) at (mul-le-mul_right (a * a') k)) in
    simp add-mul (add-le-add p q)

module _ (f : Format) (m' : ℕ) (e' : ℤ) (n' : ℕ) (d' : ℤ) where
  finite_mono : (x y : Float) → T (clear x) → T (clear y) → T (le x (fin false m' e')) → T (le y (fin false n' d')) → T (le (add f x y) (add f (fin false m' e') (fin false n' d')))
  unfolding add
  finite_mono nan y p q h k = absurd p
  finite_mono (inf true) y p q h k = absurd p
  finite_mono (inf false) y p q h k = absurd (unfold le in h)
  finite_mono (fin true m e) y p q h k = absurd p
  finite_mono (fin false m e) nan p q h k = absurd q
  finite_mono (fin false m e) (inf true) p q h k = absurd q
  finite_mono (fin false m e) (inf false) p q h k = absurd (unfold le in k)
  finite_mono (fin false m e) (fin true n d) p q h k = absurd q
  finite_mono (fin false m e) (fin false n d) p q h k =
      round_mono f _ _ _ _ (mul-pos (down_pos e) (down_pos d)) (mul-pos (down_pos e') (down_pos d'))
      (sum_of_fractions (m * up e) (down e) (n * up d) (down d) (m' * up e') (down e') (n' * up d') (down d') (cross m e m' e' h) (cross n d n' d' k))

pub add_mono : (f : Format) (x x' y y' : Float) → T (clear x) → T (clear x') → T (clear y) → T (clear y') → T (le x x') → T (le y y') → T (le (add f x y) (add f x' y'))
unfolding add
add_mono f x nan y y' p p' q q' h k = absurd p'
add_mono f x (inf true) y y' p p' q q' h k = absurd p'
add_mono f x (inf false) y nan p p' q q' h k = absurd q'
add_mono f x (inf false) y (inf true) p p' q q' h k = absurd q'
add_mono f x (inf false) y (inf false) p p' q q' h k = le_inf (add f x y) (add_clear f x y p q)
add_mono f x (inf false) y (fin t n d) p p' q q' h k = le_inf (add f x y) (add_clear f x y p q)
add_mono f x (fin true m' e') y y' p p' q q' h k = absurd p'
add_mono f x (fin false m' e') y nan p p' q q' h k = absurd q'
add_mono f x (fin false m' e') y (inf true) p p' q q' h k = absurd q'
add_mono f x (fin false m' e') y (inf false) p p' q q' h k = le_inf (add f x y) (add_clear f x y p q)
add_mono f x (fin false m' e') y (fin true n' d') p p' q q' h k = absurd q'
add_mono f x (fin false m' e') y (fin false n' d') p p' q q' h k = finite_mono f m' e' n' d' x y p q h k

-- ---- products
products : (X a Y b Y' b' : ℕ) → Y * b' ≤ Y' * b → X * Y * (a * b') ≤ X * Y' * (a * b)
products X a Y b Y' b' h = simp (mul_assoc, mul_comm, mul_left_comm) (simp (mul_assoc, mul_comm, mul_left_comm) at (mul-le-mul_right (X * a) h))

pub mul_mono_right : (f : Format) (x y y' : Float) → T (positive x) → T (clear y) → T (clear y') → T (le y y') → T (le (mul f x y) (mul f x y'))
unfolding mul
mul_mono_right f nan y y' p q q' h = absurd p
mul_mono_right f (inf s) y y' p q q' h = absurd p
mul_mono_right f (fin true m e) y y' p q q' h = absurd p
mul_mono_right f (fin false m e) y nan p q q' h = absurd q'
mul_mono_right f (fin false m e) y (inf true) p q q' h = absurd q'
mul_mono_right f (fin false m e) y (inf false) p q q' h = rw (not_zero m p) (le_inf (mul f (fin false m e) y) (mul_clear f (fin false m e) y p q))
mul_mono_right f (fin false m e) y (fin true n' d') p q q' h = absurd q'
mul_mono_right f (fin false m e) nan (fin false n' d') p q q' h = absurd q
mul_mono_right f (fin false m e) (inf true) (fin false n' d') p q q' h = absurd q
mul_mono_right f (fin false m e) (inf false) (fin false n' d') p q q' h = absurd (unfold le in h)
mul_mono_right f (fin false m e) (fin true n d) (fin false n' d') p q q' h = absurd q
mul_mono_right f (fin false m e) (fin false n d) (fin false n' d') p q q' h =
    round_mono f _ _ _ _ (mul-pos (down_pos e) (down_pos d)) (mul-pos (down_pos e) (down_pos d')) (products (m * up e) (down e) (n * up d) (down d) (n' * up d') (down d') (cross n d n' d' h))

-- ---- quotients: a larger divisor gives a smaller one
quotients : (X a Y b Y' b' : ℕ) → Y * b' ≤ Y' * b → X * b' * (Y * a) ≤ X * b * (Y' * a)
quotients X a Y b Y' b' h = simp (mul_assoc, mul_comm, mul_left_comm) (simp (mul_assoc, mul_comm, mul_left_comm) at (mul-le-mul_right (X * a) h))

pub div_anti : (f : Format) (m : ℕ) (e : ℤ) (y y' : Float) → T (positive y) → T (positive y') → T (le y y') → T (le (div f (fin false m e) y') (div f (fin false m e) y))
unfolding div
div_anti f m e nan y' p p' h = absurd p
div_anti f m e (inf s) y' p p' h = absurd p
div_anti f m e (fin true n d) y' p p' h = absurd p
div_anti f m e (fin false n d) nan p p' h = absurd p'
div_anti f m e (fin false n d) (inf s) p p' h = absurd p'
div_anti f m e (fin false n d) (fin true n' d') p p' h = absurd p'
div_anti f m e (fin false n d) (fin false n' d') p p' h =
    rw (not_zero n p, not_zero n' p')
    (round_mono f _ _ _ _ (mul-pos (mul-pos (ltb→lt 0 n' p') (up_pos d')) (down_pos e)) (mul-pos (mul-pos (ltb→lt 0 n p) (up_pos d)) (down_pos e))
    (quotients (m * up e) (down e) (n * up d) (down d) (n' * up d') (down d') (cross n d n' d' h)))

-- and a larger dividend a larger one
dividends : (X a X' a' Y b : ℕ) → X * a' ≤ X' * a → X * b * (Y * a') ≤ X' * b * (Y * a)
dividends X a X' a' Y b h = simp (mul_assoc, mul_comm, mul_left_comm) (simp (mul_assoc, mul_comm, mul_left_comm) at (mul-le-mul_right (b * Y) h))

pub div_mono : (f : Format) (x x' y : Float) → T (positive x) → T (positive x') → T (positive y) → T (le x x') → T (le (div f x y) (div f x' y))
unfolding div
div_mono f nan x' y p p' q h = absurd p
div_mono f (inf s) x' y p p' q h = absurd p
div_mono f (fin true m e) x' y p p' q h = absurd p
div_mono f (fin false m e) nan y p p' q h = absurd p'
div_mono f (fin false m e) (inf s) y p p' q h = absurd p'
div_mono f (fin false m e) (fin true m' e') y p p' q h = absurd p'
div_mono f (fin false m e) (fin false m' e') nan p p' q h = absurd q
div_mono f (fin false m e) (fin false m' e') (inf s) p p' q h = absurd q
div_mono f (fin false m e) (fin false m' e') (fin true n d) p p' q h = absurd q
div_mono f (fin false m e) (fin false m' e') (fin false n d) p p' q h =
    rw (not_zero n q)
    (round_mono f _ _ _ _ (mul-pos (mul-pos (ltb→lt 0 n q) (up_pos d)) (down_pos e)) (mul-pos (mul-pos (ltb→lt 0 n q) (up_pos d)) (down_pos e'))
    (dividends (m * up e) (down e) (m' * up e') (down e') (n * up d) (down d) (cross m e m' e' h)))

-- ---- the smaller and the larger
pub least_mono : (x x' y y' : Float) → T (clear x) → T (clear x') → T (clear y) → T (clear y') → T (le x x') → T (le y y') → T (le (least x y) (least x' y'))
least_mono x x' y y' p p' q q' h k = rw (own x p, own x' p') (go (lt y x) (lt y' x') refl refl)
  where
    go : (a b : Bool) → lt y x ≡ a → lt y' x' ≡ b → T (le (cond a y x) (cond b y' x'))
    go true true s t = k
    go true false s t = le_trans_clear y x x' q p p' (le_of_lt y x s) h
    go false true s t = le_trans_clear x y y' p q q' (at_least y x q p s) k
    go false false s t = h

-- the smaller is at most the second
pub least-below : (x y : Float) → T (clear x) → T (clear y) → T (le (least x y) y)
least-below x y p q = rw (own x p) (go (lt y x) refl)
  where
    go : (a : Bool) → lt y x ≡ a → T (le (cond a y x) y)
    go true s = le_self y q
    go false s = at_least y x q p s

pub greatest_mono : (x x' y y' : Float) → T (clear x) → T (clear x') → T (clear y) → T (clear y') → T (le x x') → T (le y y') → T (le (greatest x y) (greatest x' y'))
greatest_mono x x' y y' p p' q q' h k = rw (own x p, own x' p') (go (lt x y) (lt x' y') refl refl)
  where
    go : (a b : Bool) → lt x y ≡ a → lt x' y' ≡ b → T (le (cond a y x) (cond b y' x'))
    go true true s t = k
    go true false s t = le_trans_clear y y' x' q q' p' k (at_least x' y' p' q' t)
    go false true s t = le_trans_clear x x' y' p p' q' h (le_of_lt x' y' t)
    go false false s t = h

-- Floats with a clear sign: zero, positive numbers and the positive infinity. What is rounded, added, multiplied, divided or picked from them has a clear sign too.
use Rattle.std.proofs.Common.{◌≡◌, ℕ, suc, ◌+◌, ◌*◌, ◌^◌, ◌<◌, Bool, true, false, cond, T, eqb, ltb, refl, arith, ltb→lt, ne_eqb}
use lib.Dec.{eqb_refl}
use lib.Ieee.{Float, nan, inf, fin, Format, prec, low, emax, up, down, add, mul, div, lt, ne, odd, units, round}
use lib.Ieee.Bits.{is_true}
use lib.Ieee.Fits.{round_is}
use lib.Ieee.Positive.{positive}
use Rattle.curve.specs.F64.{least, greatest, clear}
use Rattle.curve.proofs.float.Limits.{odd_clear}

-- ---- rounding
units_clear : (f : Format) (q k : ℕ) → T (clear (units f false q k))
unfolding units
units_clear f q k = go (ltb (q * 2 ^ k) (2 ^ (low f + suc (emax f))))
  where
    go : (b : Bool) → T (clear (cond b (odd (suc (prec f)) false q k (low f)) (inf false)))
    go true = odd_clear (suc (prec f)) q k (low f)
    go false = tt

pub round-clear : (f : Format) (a c : ℕ) → T (clear (round f false a c))
round-clear f a c = rw round_is (units_clear f _ _)

-- ---- a sum
pub add_clear : (f : Format) (x y : Float) → T (clear x) → T (clear y) → T (clear (add f x y))
unfolding add
add_clear f nan y p q = absurd p
add_clear f (inf true) y p q = absurd p
add_clear f (inf false) nan p q = absurd q
add_clear f (inf false) (inf true) p q = absurd q
add_clear f (inf false) (inf false) p q = tt
add_clear f (inf false) (fin t n d) p q = tt
add_clear f (fin true m e) y p q = absurd p
add_clear f (fin false m e) nan p q = absurd q
add_clear f (fin false m e) (inf t) p q = q
add_clear f (fin false m e) (fin true n d) p q = absurd q
add_clear f (fin false m e) (fin false n d) p q = round-clear f _ _

-- ---- a product and a quotient, where one side is above 0
pub not_zero : (n : ℕ) → T (ltb 0 n) → eqb n 0 ≡ false
not_zero n t = let h : 0 < n = ltb→lt 0 n t in ne_eqb n 0 (λ e. omega arith)

pub mul_clear : (f : Format) (x y : Float) → T (positive x) → T (clear y) → T (clear (mul f x y))
unfolding mul
mul_clear f nan y p q = absurd p
mul_clear f (inf s) y p q = absurd p
mul_clear f (fin true m e) y p q = absurd p
mul_clear f (fin false m e) nan p q = absurd q
mul_clear f (fin false m e) (inf true) p q = absurd q
mul_clear f (fin false m e) (inf false) p q = rw (not_zero m p) tt
mul_clear f (fin false m e) (fin true n d) p q = absurd q
mul_clear f (fin false m e) (fin false n d) p q = round-clear f _ _

pub mul_clear_right : (f : Format) (x y : Float) → T (clear x) → T (positive y) → T (clear (mul f x y))
unfolding mul
mul_clear_right f nan y p q = absurd p
mul_clear_right f (inf true) y p q = absurd p
mul_clear_right f (inf false) nan p q = absurd q
mul_clear_right f (inf false) (inf s) p q = absurd q
mul_clear_right f (inf false) (fin true n d) p q = absurd q
mul_clear_right f (inf false) (fin false n d) p q = rw (not_zero n q) tt
mul_clear_right f (fin true m e) y p q = absurd p
mul_clear_right f (fin false m e) nan p q = absurd q
mul_clear_right f (fin false m e) (inf s) p q = absurd q
mul_clear_right f (fin false m e) (fin true n d) p q = absurd q
mul_clear_right f (fin false m e) (fin false n d) p q = round-clear f _ _

pub div_clear : (f : Format) (x y : Float) → T (clear x) → T (positive y) → T (clear (div f x y))
unfolding div
div_clear f nan y p q = absurd p
div_clear f (inf true) y p q = absurd p
div_clear f (inf false) nan p q = absurd q
div_clear f (inf false) (inf s) p q = absurd q
div_clear f (inf false) (fin true n d) p q = absurd q
div_clear f (inf false) (fin false n d) p q = tt
div_clear f (fin true m e) y p q = absurd p
div_clear f (fin false m e) nan p q = absurd q
div_clear f (fin false m e) (inf s) p q = absurd q
div_clear f (fin false m e) (fin true n d) p q = absurd q
div_clear f (fin false m e) (fin false n d) p q = rw (not_zero n q) (round-clear f _ _)

-- ---- the smaller and the larger
-- no such float is a NaN
pub own : (x : Float) → T (clear x) → ne x x ≡ false
unfolding ne
own nan p = absurd p
own (inf true) p = absurd p
own (inf false) p = refl
own (fin true m e) p = absurd p
own (fin false m e) p = rw (is_true (eqb (m * up e * down e) (m * up e * down e)) (eqb_refl (m * up e * down e)))

pub least-clear : (x y : Float) → T (clear x) → T (clear y) → T (clear (least x y))
least-clear x y p q = rw (own x p) (go (lt y x))
  where
    go : (b : Bool) → T (clear (cond b y x))
    go true = q
    go false = p

pub greatest-clear : (x y : Float) → T (clear x) → T (clear y) → T (clear (greatest x y))
greatest-clear x y p q = rw (own x p) (go (lt x y))
  where
    go : (b : Bool) → T (clear (cond b y x))
    go true = q
    go false = p

-- the smaller is one of the two
pub least_one : (P : Float → Type 0) (x y : Float) → P x → P y → P (least x y)
least_one P x y a b = go (ne x x) (lt y x)
  where
    go : (s t : Bool) → P (cond s y (cond t y x))
    go true t = b
    go false true = b
    go false false = a

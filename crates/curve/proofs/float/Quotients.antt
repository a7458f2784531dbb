-- Sums of quotients. With larger divisors the sum is not larger, as long as the first is finite; an infinity or a NaN stays in it.
use Rattle.std.proofs.Common.{◌≡◌, ℕ, zero, suc, ◌*◌, Bool, true, false, cond, not, T, eqb, ltb, ℤ, pos, sym, refl, subst, arith, lt→ltb}
use lib.Ieee.{Float, nan, inf, fin, Format, up, down, le, round, add, div, unlike}
use lib.Ieee.Scale.{finite}
use lib.Ieee.Positive.{positive, above, above_of_le}
use Rattle.curve.specs.F64.{clear}
use Rattle.curve.proofs.float.Clear.{round-clear, add_clear, div_clear}
use Rattle.curve.proofs.float.Monotone.{add_mono, div_anti, le_self, zero_below}

-- ---- a clear sign or a NaN: what a sum of quotients can be
abbrev pub dull : Float → Bool
dull nan = true
dull (inf s) = not s
dull (fin s m e) = not s

dull_clear : (x : Float) → T (clear x) → T (dull x)
dull_clear nan p = absurd p
dull_clear (inf s) p = p
dull_clear (fin s m e) p = p

round_dull : (f : Format) (a c : ℕ) → T (dull (round f false a c))
round_dull f a c = dull_clear (round f false a c) (round-clear f a c)

clear_finite : (x : Float) → T (dull x) → T (finite x) → T (clear x)
clear_finite nan p q = absurd q
clear_finite (inf s) p q = p
clear_finite (fin s m e) p q = p

dull_add : (f : Format) (x y : Float) → T (dull x) → T (dull y) → T (dull (add f x y))
unfolding add
dull_add f nan y p q = tt
dull_add f (inf true) y p q = absurd p
dull_add f (inf false) nan p q = tt
dull_add f (inf false) (inf true) p q = absurd q
dull_add f (inf false) (inf false) p q = tt
dull_add f (inf false) (fin t n d) p q = tt
dull_add f (fin s m e) nan p q = tt
dull_add f (fin s m e) (inf t) p q = q
dull_add f (fin true m e) (fin t n d) p q = absurd p
dull_add f (fin false m e) (fin true n d) p q = absurd q
dull_add f (fin false m e) (fin false n d) p q = round_dull f _ _

finite_left : (f : Format) (x y : Float) → T (dull x) → T (dull y) → T (finite (add f x y)) → T (finite x) × T (finite y)
unfolding add
finite_left f nan y p q t = absurd t
finite_left f (inf true) y p q t = absurd p
finite_left f (inf false) nan p q t = absurd t
finite_left f (inf false) (inf true) p q t = absurd q
finite_left f (inf false) (inf false) p q t = absurd t
finite_left f (inf false) (fin s n d) p q t = absurd t
finite_left f (fin s m e) nan p q t = absurd t
finite_left f (fin s m e) (inf r) p q t = absurd t
finite_left f (fin s m e) (fin r n d) p q t = (tt, tt)

-- ---- a quotient of floats with a clear sign
zero_or_not : (n : ℕ) → (b : Bool) → eqb n 0 ≡ b → T (not b) → T (ltb 0 n)
zero_or_not zero b e h = absurd (subst (λ (x : Bool). T (not x)) (sym e) h)
zero_or_not (suc n) b e h = lt→ltb 0 (suc n) (omega arith)

div_dull : (f : Format) (x y : Float) → T (clear x) → T (clear y) → T (dull (div f x y))
unfolding div
div_dull f nan y p q = absurd p
div_dull f (inf true) y p q = absurd p
div_dull f (inf false) nan p q = absurd q
div_dull f (inf false) (inf s) p q = tt
div_dull f (inf false) (fin true n d) p q = absurd q
div_dull f (inf false) (fin false n d) p q = tt
div_dull f (fin true m e) y p q = absurd p
div_dull f (fin false m e) nan p q = absurd q
div_dull f (fin false m e) (inf true) p q = absurd q
div_dull f (fin false m e) (inf false) p q = tt
div_dull f (fin false m e) (fin true n d) p q = absurd q
div_dull f (fin false m e) (fin false n d) p q = go (eqb n 0) (eqb m 0)
  where
    go : (x y : Bool) → T (dull (cond x (cond y nan (inf false)) (round f false (m * up e * down d) (n * up d * down e))))
    go true true = tt
    go true false = tt
    go false y = round_dull f (m * up e * down d) (n * up d * down e)

-- if it is finite, so is the dividend, and the divisor is above 0
finite_div : (f : Format) (x y : Float) → T (clear x) → T (clear y) → T (finite (div f x y)) → T (finite x) × T (above y)
unfolding div
finite_div f nan y p q t = absurd p
finite_div f (inf s) nan p q t = absurd q
finite_div f (inf s) (inf r) p q t = absurd t
finite_div f (inf s) (fin r n d) p q t = absurd t
finite_div f (fin s m e) nan p q t = absurd q
finite_div f (fin s m e) (inf r) p q t = (tt, q)
finite_div f (fin s m e) (fin true n d) p q t = absurd q
finite_div f (fin s m e) (fin false n d) p q t = (tt, go (eqb n 0) refl (eqb m 0) t)
  where
    go : (x : Bool) → eqb n 0 ≡ x → (y : Bool) → T (finite (cond x (cond y nan (inf (unlike s false))) (round f (unlike s false) (m * up e * down d) (n * up d * down e)))) → T (ltb 0 n)
    go true k true t = absurd t
    go true k false t = absurd t
    go false k y t = zero_or_not n false k tt

-- and a larger divisor gives no larger one
module _ (f : Format) (m : ℕ) (e : ℤ) where
  smaller : (y y' : Float) → T (clear y) → T (clear y') → T (above y) → T (le y y') → T (clear (div f (fin false m e) y')) × T (le (div f (fin false m e) y') (div f (fin false m e) y))
  unfolding div
  smaller nan y' q q' a h = absurd q
  smaller (inf true) y' q q' a h = absurd q
  smaller (inf false) nan q q' a h = absurd q'
  smaller (inf false) (inf true) q q' a h = absurd q'
  smaller (inf false) (inf false) q q' a h = (tt, le_self (fin false 0 (pos 0)) tt)
  smaller (inf false) (fin s n d) q q' a h = absurd (unfold le in h)
  smaller (fin true n d) y' q q' a h = absurd q
  smaller (fin false n d) nan q q' a h = absurd q'
  smaller (fin false n d) (inf true) q q' a h = absurd q'
  smaller (fin false n d) (inf false) q q' a h = (tt, zero_below (div f (fin false m e) (fin false n d)) (div_clear f (fin false m e) (fin false n d) tt a))
  smaller (fin false n d) (fin true n' d') q q' a h = absurd q'
  smaller (fin false n d) (fin false n' d') q q' a h =
      let a' : T (positive (fin false n' d')) = above_of_le (fin false n d) (fin false n' d') a h in
      (div_clear f (fin false m e) (fin false n' d') tt a', div_anti f m e (fin false n d) (fin false n' d') a a' h)

pub div_less : (f : Format) (x y y' : Float) → T (clear x) → T (clear y) → T (clear y') → T (le y y') → T (finite (div f x y)) → T (clear (div f x y')) × T (le (div f x y') (div f x y))
div_less f nan y y' p q q' h t = absurd p
div_less f (inf s) y y' p q q' h t = absurd (finite_div f (inf s) y p q t).0
div_less f (fin true m e) y y' p q q' h t = absurd p
div_less f (fin false m e) y y' p q q' h t = smaller f m e y y' q q' (finite_div f (fin false m e) y p q t).1 h

-- ---- y is at most x, if x is finite
pub record Slower (x y : Float) : Type 0 where
  pub dull : T (dull x)
  pub longer : T (finite x) → T (clear y) × T (le y x)

pub slower_zero : Slower (fin false 0 (pos 0)) (fin false 0 (pos 0))
slower_zero = record { dull = tt; longer = λ t. (tt, le_self (fin false 0 (pos 0)) tt) }

pub slower_add : (f : Format) (x y w m m' : Float) → Slower x y → T (clear w) → T (clear m) → T (clear m') → T (le m m') → Slower (add f x (div f w m)) (add f y (div f w m'))
slower_add f x y w m m' s p q q' h = record { dull = dull_add f x (div f w m) s.dull (div_dull f w m p q); longer = longer }
  where
    longer : T (finite (add f x (div f w m))) → T (clear (add f y (div f w m'))) × T (le (add f y (div f w m')) (add f x (div f w m)))
    longer t =
        let fs = finite_left f x (div f w m) s.dull (div_dull f w m p q) t in
        let l = s.longer fs.0 in
        let d = div_less f w m m' p q q' h fs.1 in (
          add_clear f y (div f w m') l.0 d.0,
          add_mono f y x (div f w m') (div f w m) l.0 (clear_finite x s.dull fs.0) d.0 (clear_finite (div f w m) (div_dull f w m p q) fs.1) l.1 d.1,
        )

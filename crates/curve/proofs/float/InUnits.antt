-- Floats counted in units of the smallest one. A sum, a difference, a product and a quotient are the exact results in units, rounded.
use Rattle.curve.specs.F64.{clear}
use Rattle.std.proofs.Common.{◌≡◌, ℕ, zero, suc, ◌+◌, ◌-◌, ◌*◌, ◌^◌, ◌<◌, ◌≤◌, Bool, true, false, not, ◌&&◌, T, eqb, ltb, ℤ, sym, refl, ap, ◌∙◌, subst, true≢false, le_trans, le_of_eq, lt_of_lt_of_le, lt_of_le_of_lt, lt_irrefl, mul-le-mul_right, mul_assoc, mul_comm, add-mul, lt_of_mul-lt-mul_right, mul-lt-mul_of_pos_right, mul-pos, zero-mul, mul_right_comm, le_of_mul-le-mul_right, arith, ltb→lt, nltb→le, pow_pos, le-ltb, lt-ltb, ne_eqb}
use native.Mathlib.Nat.{mul-sub, mul-mul-mul_comm, eq_of_mul-eq-mul_right}
use lib.Ieee.{Float, nan, inf, fin, Format, prec, low, emax, up, down, unlike, round, sum, neg, add, sub, mul, div, fits}
use lib.Ieee.Fits.{down_pos}
use lib.Ieee.Exact.{HasValue}
use lib.Ieee.Scale.{round_same, overflow, grid}
use lib.Ieee.Positive.{first_pos}
use Rattle.curve.proofs.float.Exact.{parts, shift, zero_units, own_under}
use Rattle.curve.proofs.float.Grid.{OnGrid, stays_below, value}

-- ---- x is n units, and these are a float
pub record Units (f : Format) (x : Float) (n : ℕ) : Type 0 where
  pub value : HasValue x false n (2 ^ low f)
  pub held : OnGrid f n
  pub under : n < overflow f

-- every finite float with a clear sign
pub in_units : (f : Format) (m : ℕ) (e : ℤ) → T (fits f (fin false m e)) → (n : ℕ) × Units f (fin false m e) n
in_units f zero e t = (
  0,
  record {
    value = (refl, zero_units f e);
    held = (0, 0, pow_pos (prec f), refl);
    under = pow_pos (low f + suc (emax f));
  },
)
in_units f (suc m) e t =
    let p = parts f false m e t in
    let s = shift f (suc m) e p.fine in (
      suc m * 2 ^ s.0,
      record {
        value = (refl, s.1);
        held = (suc m, s.0, p.small, refl);
        under = own_under f m e t;
      },
    )

-- ---- a sum
sub_same : (a b c a' b' c' : ℕ) → a * c' ≡ a' * c → b * c' ≡ b' * c → (a - b) * c' ≡ (a' - b') * c
sub_same a b c a' b' c' p q =
    mul_comm (a - b) c' ∙ mul-sub c' a b ∙ (λ i. (mul_comm c' a ∙ p ∙ mul_comm a' c) i - (mul_comm c' b ∙ q ∙ mul_comm b' c) i) ∙ sym (mul-sub c a' b') ∙ mul_comm c (a' - b')

ltb_same : (a b c a' b' c' : ℕ) → 0 < c → 0 < c' → a * c' ≡ a' * c → b * c' ≡ b' * c → ltb a b ≡ ltb a' b'
ltb_same a b c a' b' c' C C' p q = go (ltb a' b') (ltb→lt a' b') (nltb→le a' b')
  where
    go : (x : Bool) → (T x → a' < b') → (T (not x) → b' ≤ a') → ltb a b ≡ x
    go true h k = lt-ltb a b (lt_of_mul-lt-mul_right c' (lt_of_le_of_lt (le_of_eq p) (lt_of_lt_of_le (mul-lt-mul_of_pos_right (h tt) C) (le_of_eq (sym q)))))
    go false h k = le-ltb a b (le_of_mul-le-mul_right (le_trans (le_of_eq q) (le_trans (mul-le-mul_right c (k tt)) (le_of_eq (sym p)))) C')

sum_same : (f : Format) (s : Bool) (a : ℕ) (t : Bool) (b c a' b' c' : ℕ) → 0 < c → 0 < c' → a * c' ≡ a' * c → b * c' ≡ b' * c → sum f s a t b c ≡ sum f s a' t b' c'
unfolding sum
sum_same f s a t b c a' b' c' C C' p q =
    let plus : (a + b) * c' ≡ (a' + b') * c = add-mul a b c' ∙ (λ i. p i + q i) ∙ sym (add-mul a' b' c) in
    rw (
      round_same f s (a + b) c (a' + b') c' C C' plus,
      ltb_same a b c a' b' c' C C' p q,
      ltb_same b a c b' a' c' C C' q p,
      round_same f t (b - a) c (b' - a') c' C C' (sub_same b a c b' a' c' q p),
      round_same f (s && ltb b' a') (a - b) c (a' - b') c' C C' (sub_same a b c a' b' c' p q),
    )

cross_sum : (X m d e u : ℕ) → m * u ≡ X * e → m * d * u ≡ X * (e * d)
cross_sum X m d e u v = mul_right_comm m d u ∙ ap (λ (z : ℕ). z * d) v ∙ mul_assoc X e d

pub add_units : (f : Format) (x y : Float) (t : Bool) (X Y : ℕ) → HasValue x false X (2 ^ low f) → HasValue y t Y (2 ^ low f) → add f x y ≡ sum f false X t Y (2 ^ low f)
unfolding add
add_units f nan y t X Y v w = absurd v
add_units f (inf s) y t X Y v w = absurd v
add_units f (fin true m e) y t X Y v w = absurd (true≢false v.0)
add_units f (fin false m e) nan t X Y v w = absurd w
add_units f (fin false m e) (inf s) t X Y v w = absurd w
add_units f (fin false m e) (fin s n d) t X Y v w =
    ap (λ (z : Bool). sum f false (m * up e * down d) z (n * up d * down e) (down e * down d)) w.0
    ∙ sum_same f false (m * up e * down d) t (n * up d * down e) (down e * down d) X Y (2 ^ low f) (mul-pos (down_pos e) (down_pos d)) (pow_pos (low f))
    (cross_sum X (m * up e) (down d) (down e) (2 ^ low f) v.1)
    (cross_sum Y (n * up d) (down e) (down d) (2 ^ low f) w.1 ∙ ap (λ (z : ℕ). Y * z) (mul_comm (down d) (down e)))

neg_value : (y : Float) (Y c : ℕ) → HasValue y false Y c → HasValue (neg y) true Y c
unfolding neg
neg_value nan Y c v = absurd v
neg_value (inf s) Y c v = absurd v
neg_value (fin s n d) Y c v = (ap not v.0, v.1)

-- where the signs differ: what is left of the larger, with its sign
pub cancels : (f : Format) (a b c : ℕ) → b ≤ a → sum f false a true b c ≡ round f false (a - b) c
unfolding sum
cancels f a b c h = rw (le-ltb a b h)

pub falls : (f : Format) (a b c : ℕ) → a < b → sum f false a true b c ≡ round f true (b - a) c
unfolding sum
falls f a b c h = rw (lt-ltb a b h)

pub sub_units : (f : Format) (x y : Float) (X Y : ℕ) → HasValue x false X (2 ^ low f) → HasValue y false Y (2 ^ low f) → sub f x y ≡ sum f false X true Y (2 ^ low f)
unfolding sub
sub_units f x y X Y v w = add_units f x (neg y) true X Y v (neg_value y Y (2 ^ low f) w)

-- ---- a product and a quotient
own_sign : (t : Bool) → unlike false t ≡ t
own_sign true = refl
own_sign false = refl

sign_kept : (t : Bool) → unlike t false ≡ t
sign_kept true = refl
sign_kept false = refl

cross_mul : (X Y m n e d u : ℕ) → m * u ≡ X * e → n * u ≡ Y * d → m * n * (u * u) ≡ X * Y * (e * d)
cross_mul X Y m n e d u v w = mul-mul-mul_comm m n u u ∙ (λ i. v i * w i) ∙ mul-mul-mul_comm X e Y d

pub mul_units : (f : Format) (x y : Float) (t : Bool) (X Y : ℕ) → HasValue x false X (2 ^ low f) → HasValue y t Y (2 ^ low f) → mul f x y ≡ round f t (X * Y) (2 ^ low f * 2 ^ low f)
unfolding mul
mul_units f nan y t X Y v w = absurd v
mul_units f (inf s) y t X Y v w = absurd v
mul_units f (fin true m e) y t X Y v w = absurd (true≢false v.0)
mul_units f (fin false m e) nan t X Y v w = absurd w
mul_units f (fin false m e) (inf s) t X Y v w = absurd w
mul_units f (fin false m e) (fin s n d) t X Y v w =
    ap (λ (z : Bool). round f z (m * up e * (n * up d)) (down e * down d)) (own_sign s ∙ w.0)
    ∙ round_same f t (m * up e * (n * up d)) (down e * down d) (X * Y) (2 ^ low f * 2 ^ low f) (mul-pos (down_pos e) (down_pos d)) (mul-pos (pow_pos (low f)) (pow_pos (low f)))
    (cross_mul X Y (m * up e) (n * up d) (down e) (down d) (2 ^ low f) v.1 w.1)

cross_div : (X Y m n e d u : ℕ) → 0 < u → m * u ≡ X * e → n * u ≡ Y * d → m * d * Y ≡ X * (n * e)
cross_div X Y m n e d u U v w =
    eq_of_mul-eq-mul_right u U (m * d * Y) (X * (n * e))
    (mul_right_comm (m * d) Y u ∙ ap (λ (z : ℕ). z * Y) (mul_right_comm m d u ∙ ap (λ (z : ℕ). z * d) v)
    ∙ mul_assoc (X * e) d Y ∙ ap (λ (z : ℕ). X * e * z) (mul_comm d Y ∙ sym w) ∙ sym (mul_assoc (X * e) n u) ∙ ap (λ (z : ℕ). z * u) (mul_assoc X e n ∙ ap (λ (z : ℕ). X * z) (mul_comm e n)))

above_zero : (n : ℕ) (d : ℤ) (Y u : ℕ) → n * up d * u ≡ Y * down d → 0 < Y → eqb n 0 ≡ false
above_zero zero d Y u w h = absurd (lt_irrefl 0 (subst (λ (z : ℕ). 0 < z) (sym w ∙ ap (λ (z : ℕ). z * u) (zero-mul (up d)) ∙ zero-mul u) (mul-pos h (down_pos d))))
above_zero (suc n) d Y u w h = ne_eqb (suc n) 0 (λ e. omega arith)

pub div_units : (f : Format) (x y : Float) (t : Bool) (X Y : ℕ) → HasValue x t X (2 ^ low f) → HasValue y false Y (2 ^ low f) → 0 < Y → div f x y ≡ round f t X Y
unfolding div
div_units f nan y t X Y v w h = absurd v
div_units f (inf s) y t X Y v w h = absurd v
div_units f (fin s m e) nan t X Y v w h = absurd w
div_units f (fin s m e) (inf r) t X Y v w h = absurd w
div_units f (fin s m e) (fin true n d) t X Y v w h = absurd (true≢false w.0)
div_units f (fin s m e) (fin false n d) t X Y v w h =
    rw (above_zero n d Y (2 ^ low f) w.1 h)
    (ap (λ (z : Bool). round f z (m * up e * down d) (n * up d * down e)) (sign_kept s ∙ v.0)
    ∙ round_same f t (m * up e * down d) (n * up d * down e) X Y (den w.1) h
    (cross_div X Y (m * up e) (n * up d) (down e) (down d) (2 ^ low f) (pow_pos (low f)) v.1 w.1))
  where
    den : n * up d * 2 ^ low f ≡ Y * down d → 0 < n * up d * down e
    den w = mul-pos (first_pos (n * up d) (2 ^ low f) (subst (λ (z : ℕ). 0 < z) (sym w) (mul-pos h (down_pos d)))) (down_pos e)

-- ---- a difference, and a bound for it
module _ (f : Format) (x y : Float) (X Y : ℕ) (v : Units f x X) (w : Units f y Y) where
  pub difference : Y ≤ X → HasValue (sub f x y) false (grid f (X - Y) (2 ^ low f)) (2 ^ low f) × (grid f (X - Y) (2 ^ low f) ≤ X)
  difference h =
      let b : grid f (X - Y) (2 ^ low f) ≤ X = stays_below f X (X - Y) (2 ^ low f) v.held v.under (pow_pos (low f)) (mul-le-mul_right (2 ^ low f) (omega arith)) in
      (subst (λ (z : Float). HasValue z false (grid f (X - Y) (2 ^ low f)) (2 ^ low f)) (sym (sub_units f x y X Y v.value w.value ∙ cancels f X Y (2 ^ low f) h)) (value f false (X - Y) (2 ^ low f) (lt_of_le_of_lt b v.under)), b)

  pub fall : X < Y → HasValue (sub f x y) true (grid f (Y - X) (2 ^ low f)) (2 ^ low f) × (grid f (Y - X) (2 ^ low f) ≤ Y)
  fall h =
      let b : grid f (Y - X) (2 ^ low f) ≤ Y = stays_below f Y (Y - X) (2 ^ low f) w.held w.under (pow_pos (low f)) (mul-le-mul_right (2 ^ low f) (omega arith)) in
      (subst (λ (z : Float). HasValue z true (grid f (Y - X) (2 ^ low f)) (2 ^ low f)) (sym (sub_units f x y X Y v.value w.value ∙ falls f X Y (2 ^ low f) h)) (value f true (Y - X) (2 ^ low f) (lt_of_le_of_lt b w.under)), b)

pub clear_value : (x : Float) (a c : ℕ) → HasValue x false a c → T (clear x)
clear_value nan a c v = absurd v
clear_value (inf s) a c v = absurd v
clear_value (fin true m e) a c v = absurd (true≢false v.0)
clear_value (fin false m e) a c v = tt

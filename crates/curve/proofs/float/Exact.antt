-- Operations that are exact: a float less itself, zero times and over a float, a float and zero; and a difference of two floats that is not zero, or not infinite.
use Rattle.std.proofs.Common.{◌≡◌, ℕ, zero, suc, ◌+◌, ◌-◌, ◌*◌, ◌%◌, ◌^◌, ◌<◌, ◌≤◌, Bool, true, false, cond, not, ◌&&◌, T, eqb, ltb, leb, ℤ, pos, negsuc, sym, refl, ap, ◌∙◌, subst, zero-le, le_trans, le_of_eq, le_refl, lt_of_lt_of_le, lt_of_le_of_lt, add-zero, le_of_lt, lt_irrefl, mul-le-mul_right, mul_assoc, mul_comm, add-mul, lt_of_mul-lt-mul_right, mul-lt-mul_of_pos_right, mul-pos, zero-mul, mul-one, mul_right_comm, not-le_of_lt, mul_left_comm, arith, eqb→eq, ltb→lt, leb→le, nltb→le, pow_pos, pow-add, ltb-true, le-ltb, ne_eqb}
use native.Mathlib.Nat.{sub-zero, pow-succ'}
use lib.Pow.{pow-lt}
use lib.Ieee.{Float, nan, inf, fin, Format, binary64, prec, low, emax, up, down, unlike, odd, units, round, sum, add, sub, mul, div, lt, le, fits}
use lib.Ieee.Digits.{back}
use lib.Ieee.Fits.{up_pos, down_pos, and_l, and_r, round_is, round-fits}
use lib.Ieee.Exact.{HasValue, round_exact, units_val}
use lib.Ieee.Order.{round_mono, kept, drop}
use lib.Ieee.Scale.{round_same, finite, overflow}
use lib.Ieee.Positive.{above, above_of_le, positive}

-- ---- a float that fits is written in one way
even_odd : (m t : ℕ) → m % 2 ≡ 1 → m ≡ 2 * t → ⊥
even_odd m t o h = omega arith

twice : (n b : ℕ) → n * 2 ^ suc b ≡ 2 * (n * 2 ^ b)
twice n b = ap (λ (x : ℕ). n * x) (pow-succ' 2 b) ∙ mul_left_comm n 2 (2 ^ b)

half : (x y : ℕ) → 2 * x ≡ 2 * y → x ≡ y
half x y h = omega arith

odd_pow : (m n a b : ℕ) → m % 2 ≡ 1 → n % 2 ≡ 1 → m * 2 ^ a ≡ n * 2 ^ b → (m ≡ n) × (a ≡ b)
odd_pow m n zero zero o p h = (sym (mul-one m) ∙ h ∙ mul-one n, refl)
odd_pow m n zero (suc b) o p h = absurd (even_odd m (n * 2 ^ b) o (sym (mul-one m) ∙ h ∙ twice n b))
odd_pow m n (suc a) zero o p h = absurd (even_odd n (m * 2 ^ a) p (sym (mul-one n) ∙ sym h ∙ twice m a))
odd_pow m n (suc a) (suc b) o p h =
    let r = odd_pow m n a b o p (half (m * 2 ^ a) (n * 2 ^ b) (sym (twice m a) ∙ h ∙ twice n b)) in
    (r.0, ap suc r.1)

one_way : (m n : ℕ) (e d : ℤ) → m % 2 ≡ 1 → n % 2 ≡ 1 → m * up e * down d ≡ n * up d * down e → (m ≡ n) × (e ≡ d)
one_way m n (pos a) (pos b) o p h =
    let r = odd_pow m n a b o p (sym (mul-one (m * 2 ^ a)) ∙ h ∙ mul-one (n * 2 ^ b)) in
    (r.0, ap pos r.1)
one_way m n (pos a) (negsuc b) o p h = absurd (even_odd n (m * 2 ^ a * 2 ^ b) p (sym (mul-one n) ∙ sym (mul-one (n * 1)) ∙ sym h ∙ twice (m * 2 ^ a) b))
one_way m n (negsuc a) (pos b) o p h = absurd (even_odd m (n * 2 ^ b * 2 ^ a) o (sym (mul-one m) ∙ sym (mul-one (m * 1)) ∙ h ∙ twice (n * 2 ^ b) a))
one_way m n (negsuc a) (negsuc b) o p h =
    let r = odd_pow m n (suc b) (suc a) o p (ap (λ (x : ℕ). x * 2 ^ suc b) (sym (mul-one m)) ∙ h ∙ ap (λ (x : ℕ). x * 2 ^ suc a) (mul-one n)) in
    let same : a ≡ b = omega (arith, r.1) in
    (r.0, ap negsuc same)

-- what `fits` says of a number that is not 0
pub record Parts (f : Format) (m : ℕ) (e : ℤ) : Type 0 where
  pub odd : m % 2 ≡ 1
  pub small : m < 2 ^ prec f
  pub fine : down e ≤ 2 ^ low f
  pub under : m * up e < 2 ^ suc (emax f) * down e

pub parts : (f : Format) (s : Bool) (m : ℕ) (e : ℤ) → T (fits f (fin s (suc m) e)) → Parts f (suc m) e
unfolding fits
parts f s m e t =
    let a : Bool = eqb (suc m % 2) 1 in
    let b : Bool = ltb (suc m) (2 ^ prec f) in
    let c : Bool = leb (down e) (2 ^ low f) in
    let d : Bool = ltb (suc m * up e) (2 ^ suc (emax f) * down e) in
    let abc = and_l (a && b && c) d t in
    let ab = and_l (a && b) c abc in
    record {
      odd = eqb→eq (suc m % 2) 1 (and_l a b ab);
      small = ltb→lt (suc m) (2 ^ prec f) (and_r a b ab);
      fine = leb→le (down e) (2 ^ low f) (and_r (a && b) c abc);
      under = ltb→lt (suc m * up e) (2 ^ suc (emax f) * down e) (and_r (a && b && c) d t);
    }

same_number : (f : Format) (x : Float) (m : ℕ) (e : ℤ) → T (fits f x) → T (fits f (fin false (suc m) e)) → HasValue x false (suc m * up e) (down e) → x ≡ fin false (suc m) e
same_number f nan m e p q v = absurd v
same_number f (inf t) m e p q v = absurd v
same_number f (fin t zero d) m e p q v =
    absurd (lt_irrefl 0 (subst (λ (z : ℕ). 0 < z) (sym v.1 ∙ ap (λ (z : ℕ). z * down e) (zero-mul (up d)) ∙ zero-mul (down e)) (mul-pos (mul-pos (zero_lt m) (up_pos e)) (down_pos d))))
  where
    zero_lt : (m : ℕ) → 0 < suc m
    zero_lt m = omega arith
same_number f (fin t (suc n) d) m e p q v =
    let r = one_way (suc n) (suc m) d e (parts f t n d p).odd (parts f false m e q).odd v.1 in
    λ i. fin (v.0 i) (r.0 i) (r.1 i)

-- ---- in units of the smallest float, 2 ^ -low
pow_le : (a b : ℕ) → 2 ^ a ≤ 2 ^ b → a ≤ b
pow_le a b h = go (ltb b a) (ltb→lt b a) (nltb→le b a)
  where
    go : (x : Bool) → (T x → b < a) → (T (not x) → a ≤ b) → a ≤ b
    go true p q = absurd (not-le_of_lt (pow-lt (p tt)) h)
    go false p q = q tt

pub shift : (f : Format) (m : ℕ) (e : ℤ) → down e ≤ 2 ^ low f → (j : ℕ) × (m * up e * 2 ^ low f ≡ m * 2 ^ j * down e)
shift f m (pos k) b = (k + low f, mul_assoc m (2 ^ k) (2 ^ low f) ∙ ap (λ (z : ℕ). m * z) (sym (pow-add 2 k (low f))) ∙ sym (mul-one (m * 2 ^ (k + low f))))
shift f m (negsuc k) b =
    let j = low f - suc k in
    let e : 2 ^ j * 2 ^ suc k ≡ 2 ^ low f = sym (pow-add 2 j (suc k)) ∙ ap (λ (z : ℕ). 2 ^ z) (back (low f) (suc k) (pow_le (suc k) (low f) b)) in
    (j, ap (λ (z : ℕ). z * 2 ^ low f) (mul-one m) ∙ ap (λ (z : ℕ). m * z) (sym e) ∙ sym (mul_assoc m (2 ^ j) (2 ^ suc k)))

pub zero_units : (f : Format) (e : ℤ) → 0 * up e * 2 ^ low f ≡ 0 * down e
zero_units f e = ap (λ (z : ℕ). z * 2 ^ low f) (zero-mul (up e)) ∙ zero-mul (2 ^ low f) ∙ sym (zero-mul (down e))

whole_units : (f : Format) (m : ℕ) (e : ℤ) → T (fits f (fin false m e)) → (n : ℕ) × (m * up e * 2 ^ low f ≡ n * down e)
whole_units f zero e t = (0, zero_units f e)
whole_units f (suc m) e t = let s = shift f (suc m) e (parts f false m e t).fine in (suc m * 2 ^ s.0, s.1)

-- its own value, rounded, is the float
top : (M n d l t : ℕ) → M * l ≡ n * d → M < t * d → 0 < l → n < l * t
top M n d l t e h L =
    lt_of_mul-lt-mul_right d
    (lt_of_le_of_lt (le_of_eq (sym e)) (lt_of_lt_of_le (mul-lt-mul_of_pos_right h L) (le_of_eq (mul_comm (t * d) l ∙ sym (mul_assoc l t d)))))

-- in units it is below the overflow
pub own_under : (f : Format) (m : ℕ) (e : ℤ) (t : T (fits f (fin false (suc m) e))) → suc m * 2 ^ (shift f (suc m) e (parts f false m e t).fine).0 < overflow f
own_under f m e t =
    let p = parts f false m e t in
    let s = shift f (suc m) e p.fine in
    lt_of_lt_of_le (top (suc m * up e) (suc m * 2 ^ s.0) (down e) (2 ^ low f) (2 ^ suc (emax f)) s.1 p.under (pow_pos (low f))) (le_of_eq (sym (pow-add 2 (low f) (suc (emax f)))))

own_round : (f : Format) (m : ℕ) (e : ℤ) → T (fits f (fin false (suc m) e)) → round f false (suc m * up e) (down e) ≡ fin false (suc m) e
own_round f m e t =
    let p = parts f false m e t in
    let s = shift f (suc m) e p.fine in
    same_number f (round f false (suc m * up e) (down e)) m e (round-fits f false (suc m * up e) (down e)) t
    (round_exact f false (suc m * up e) (down e) (suc m) s.0 (down_pos e) p.small (own_under f m e t) s.1)

-- ---- zero
round_zero : (s : Bool) (c : ℕ) → 0 < c → round binary64 s 0 c ≡ fin s 0 (pos 0)
unfolding round
round_zero true c h = round_same binary64 true 0 c 0 1 h (omega arith) (sym (zero-mul c))
round_zero false c h = round_same binary64 false 0 c 0 1 h (omega arith) (sym (zero-mul c))

nothing_left : (a : ℕ) → a - a ≡ 0
nothing_left a = omega arith

pub less_itself : (m : ℕ) (e : ℤ) → sub binary64 (fin false m e) (fin false m e) ≡ fin false 0 (pos 0)
unfolding sub sum
less_itself m e =
    let a = m * up e * down e in
    rw (le-ltb a a (le_refl a), nothing_left a) (round_zero false (down e * down e) (mul-pos (down_pos e) (down_pos e)))

pub times_zero : (x : Float) → T (finite x) → (s : Bool) × (mul binary64 (fin false 0 (pos 0)) x ≡ fin s 0 (pos 0))
unfolding mul
times_zero nan h = absurd h
times_zero (inf s) h = absurd h
times_zero (fin s n d) h = (unlike false s, rw (zero-mul (n * up d)) (round_zero (unlike false s) (1 * down d) (mul-pos (pow_pos 0) (down_pos d))))

pub over_zero : (s : Bool) (x : Float) → T (above x) → (t : Bool) × (div binary64 (fin s 0 (pos 0)) x ≡ fin t 0 (pos 0))
unfolding div
over_zero s nan h = absurd h
over_zero s (inf t) h = (unlike s t, refl)
over_zero s (fin true n d) h = absurd h
over_zero s (fin false n d) h =
    let p : 0 < n = ltb→lt 0 n h in
    (unlike s false, rw (ne_eqb n 0 (λ e. omega arith), zero-mul (down d)) (round_zero (unlike s false) (n * up d * 1) (mul-pos (mul-pos p (up_pos d)) (pow_pos 0))))

pub plus_zero : (m : ℕ) (e : ℤ) (s : Bool) → T (fits binary64 (fin false (suc m) e)) → add binary64 (fin false (suc m) e) (fin s 0 (pos 0)) ≡ fin false (suc m) e
unfolding add sum
plus_zero m e true t = rw (zero-mul (down e), le-ltb (suc m * up e * 1) 0 zero-le, sub-zero (suc m * up e * 1), mul-one (suc m * up e), mul-one (down e)) (own_round binary64 m e t)
plus_zero m e false t = rw (zero-mul (down e), add-zero (suc m * up e * 1), mul-one (suc m * up e), mul-one (down e)) (own_round binary64 m e t)

-- ---- a difference
pub finite_value : (x : Float) (s : Bool) (a c : ℕ) → HasValue x s a c → T (finite x)
finite_value nan s a c v = absurd v
finite_value (inf t) s a c v = absurd v
finite_value (fin t m e) s a c v = tt

units_under : (f : Format) (q k n : ℕ) (d : ℤ) → T (le (units f false q k) (fin false n d)) → q * 2 ^ k < overflow f
unfolding units
units_under f q k n d = go (ltb (q * 2 ^ k) (overflow f)) (ltb→lt (q * 2 ^ k) (overflow f))
  where
    go : (b : Bool) → (T b → q * 2 ^ k < overflow f) → T (le (cond b (odd (suc (prec f)) false q k (low f)) (inf false)) (fin false n d)) → q * 2 ^ k < overflow f
    go true h t = h tt
    go false h t = absurd (unfold le in t)

-- what is at most 1024 rounds to no infinity
round_finite : (s : Bool) (a c : ℕ) → 0 < c → a ≤ 1024 * c → T (finite (round binary64 s a c))
unfolding round
round_finite s a c h k =
    let q = kept 53 (a * 2 ^ 1074) c in
    let j = drop 53 (a * 2 ^ 1074) c in
    let l : T (le (round binary64 false a c) (round binary64 false 1024 1)) = round_mono binary64 a c 1024 1 h (omega arith) (omega arith) in
    let u : q * 2 ^ j < overflow binary64 = units_under binary64 q j 1 (pos 10) (subst (λ (x : Float). T (le x (round binary64 false 1024 1))) (round_is binary64 false a c) l) in
    subst (λ (x : Float). T (finite x)) (sym (round_is binary64 s a c)) (finite_value (units binary64 s q j) s (q * 2 ^ j) (2 ^ 1074) (units_val binary64 s q j u))

pub finite_difference : (m : ℕ) (e : ℤ) (n : ℕ) (d : ℤ) → m * up e ≤ 1024 * down e → n * up d ≤ 1024 * down d → T (finite (sub binary64 (fin false m e) (fin false n d)))
unfolding sub sum
finite_difference m e n d h k = go (ltb (m * up e * down d) (n * up d * down e))
  where
    c : ℕ
    c = down e * down d

    small : (x y z : ℕ) → x ≤ z → x - y ≤ z
    small x y z h = omega arith

    a_most : m * up e * down d ≤ 1024 * c
    a_most = le_trans (mul-le-mul_right (down d) h) (le_of_eq (mul_assoc 1024 (down e) (down d)))

    b_most : n * up d * down e ≤ 1024 * c
    b_most = le_trans (mul-le-mul_right (down e) k) (le_of_eq (mul_assoc 1024 (down d) (down e) ∙ ap (λ (z : ℕ). 1024 * z) (mul_comm (down d) (down e))))

    go : (b : Bool) → T (finite (cond b (round binary64 true (n * up d * down e - m * up e * down d) c) (round binary64 false (m * up e * down d - n * up d * down e) c)))
    go true = round_finite true (n * up d * down e - m * up e * down d) c (mul-pos (down_pos e) (down_pos d)) (small (n * up d * down e) (m * up e * down d) (1024 * c) b_most)
    go false = round_finite false (m * up e * down d - n * up d * down e) c (mul-pos (down_pos e) (down_pos d)) (small (m * up e * down d) (n * up d * down e) (1024 * c) a_most)

-- two different floats are a smallest one apart at least
apart : (a b c M N U : ℕ) → 0 < c → 0 < U → a * U ≡ N * c → b * U ≡ M * c → b < a → 1 * c ≤ (a - b) * U
apart a b c M N U C P p q h =
    let more : M * c < N * c = lt_of_le_of_lt (le_of_eq (sym q)) (lt_of_lt_of_le (mul-lt-mul_of_pos_right h P) (le_of_eq p)) in
    let less : M < N = lt_of_mul-lt-mul_right c more in
    let step : (M + 1) * c ≤ N * c = mul-le-mul_right c (omega arith) in
    let whole : (a - b) * U + b * U ≡ a * U = sym (add-mul (a - b) b U) ∙ ap (λ (z : ℕ). z * U) (together a b (le_of_lt h)) in
    let spread : (M + 1) * c ≡ M * c + 1 * c = add-mul M 1 c in
    omega (arith, p, q)
  where
    together : (a b : ℕ) → b ≤ a → a - b + b ≡ a
    together a b h = omega arith

pub difference_above : (m : ℕ) (e : ℤ) (n : ℕ) (d : ℤ) → T (fits binary64 (fin false m e)) → T (fits binary64 (fin false n d)) → lt (fin false n d) (fin false m e) ≡ true → T (above (sub binary64 (fin false m e) (fin false n d)))
unfolding sub sum lt
difference_above m e n d p q h =
    let a = m * up e * down d in
    let b = n * up d * down e in
    let c = down e * down d in
    let l : b < a = ltb-true b a h in
    let M = whole_units binary64 m e p in
    let N = whole_units binary64 n d q in
    let am : a * 2 ^ 1074 ≡ M.0 * c = mul_right_comm (m * up e) (down d) (2 ^ 1074) ∙ ap (λ (z : ℕ). z * down d) M.1 ∙ mul_assoc M.0 (down e) (down d) in
    let bn : b * 2 ^ 1074 ≡ N.0 * c = mul_right_comm (n * up d) (down e) (2 ^ 1074) ∙ ap (λ (z : ℕ). z * down e) N.1 ∙ mul_assoc N.0 (down d) (down e) ∙ ap (λ (z : ℕ). N.0 * z) (mul_comm (down d) (down e)) in
    let far = apart a b c N.0 M.0 (2 ^ 1074) (mul-pos (down_pos e) (down_pos d)) (pow_pos 1074) am bn l in
    rw (le-ltb a b (le_of_lt l)) (above_of_le (round binary64 false 1 (2 ^ 1074)) (round binary64 false (a - b) c) smallest (round_mono binary64 1 (2 ^ 1074) (a - b) c (pow_pos 1074) (mul-pos (down_pos e) (down_pos d)) far))
  where
    smallest : T (positive (round binary64 false 1 (2 ^ 1074)))
    smallest = unfold round in tt

-- The order of floats.
use Rattle.std.proofs.Common.{◌≡◌, ℕ, zero, suc, ◌+◌, ◌*◌, ◌<◌, ◌≤◌, Bool, true, false, not, ◌&&◌, ◌||◌, T, eqb, ltb, ℤ, sym, refl, ◌∙◌, subst, true≢false, le_of_eq, le_refl, le_of_lt as nat-le-of-lt, mul-pos, lt_of_not-le, not-le_of_lt, arith, eqb→eq, ltb→lt, ltb-false, ltb-true, le-ltb, lt-ltb, eq-eqb}
use mathlib.Core.Bool.{beq}
use lib.Ieee.{Float, nan, inf, fin, up, down, below, level, lt, le, eq, ne, is_nan}
use lib.Ieee.Fits.{down_pos, and_l}
use lib.Ieee.Order.{le_of_values}
use lib.Ieee.Bits.{is_true}
use lib.Ieee.Positive.{through, first_pos}
use Rattle.curve.specs.F64.{clear}

-- fractions with x / p ≤ y / q < z / r, and with z / r < y / q ≤ x / p
below_right : (x y z p q r : ℕ) → 0 < p → x * q ≤ y * p → y * r < z * q → x * r < z * p
below_right x y z p q r P h k = lt_of_not-le (λ g. not-le_of_lt k (through z x y r p q P g h))

below_left : (x y z p q r : ℕ) → 0 < p → y * p ≤ x * q → z * q < y * r → z * p < x * r
below_left x y z p q r P h k = lt_of_not-le (λ g. not-le_of_lt k (through y x z q p r P h g))

no_factor : (x q : ℕ) → 0 < q → x * q ≡ 0 → x ≡ 0
no_factor zero q h e = refl
no_factor (suc x) q h e = let p : 0 < suc x = omega arith in absurd (omega (arith, mul-pos p h))

-- the tests of two sizes, below or alike, and of two zeros
at_most : (a b : ℕ) (v z : Bool) → (T v → a ≡ b) → (ltb a b || (v && z)) ≡ true → a ≤ b
at_most a b v z g t = go (ltb a b) v (ltb→lt a b) g t
  where
    go : (u v : Bool) → (T u → a < b) → (T v → a ≡ b) → (u || (v && z)) ≡ true → a ≤ b
    go true v f g t = nat-le-of-lt (f tt)
    go false true f g t = le_of_eq (g tt)
    go false false f g t = absurd (true≢false (sym t))

both_zero : (a b : ℕ) → (eqb a b && eqb a 0) ≡ true → (a ≡ 0) × (b ≡ 0)
both_zero a b t = go (eqb a b) (eqb a 0) (eqb→eq a b) (eqb→eq a 0) t
  where
    go : (u v : Bool) → (T u → a ≡ b) → (T v → a ≡ 0) → (u && v) ≡ true → (a ≡ 0) × (b ≡ 0)
    go true true f g t = (g tt, omega (arith, f tt, g tt))
    go true false f g t = absurd (true≢false (sym t))
    go false v f g t = absurd (true≢false (sym t))

-- the same of ± x / p, ± y / q and ± z / r, as `le` and `lt` test them
signed : (s t u : Bool) (x y z p q r : ℕ) → 0 < p → 0 < q → 0 < r
    → (below s (x * q) t (y * p) || level s (x * q) t (y * p)) ≡ true → below t (y * r) u (z * q) ≡ true → below s (x * r) u (z * p) ≡ true
signed false false false x y z p q r P Q R h k =
    lt-ltb (x * r) (z * p) (below_right x y z p q r P (at_most (x * q) (y * p) (eqb (x * q) (y * p)) true (eqb→eq (x * q) (y * p)) h) (ltb-true (y * r) (z * q) k))
signed false false true x y z p q r P Q R h k = k
signed false true u x y z p q r P Q R h k =
    let o = both_zero (x * q) (y * p) h in
    go u (no_factor x q Q o.0) (no_factor y p P o.1) k
  where
    go : (u : Bool) → x ≡ 0 → y ≡ 0 → below true (y * r) u (z * q) ≡ true → below false (x * r) u (z * p) ≡ true
    go false a b k =
        let Z : 0 < z = first_pos z q (omega (arith, subst (λ (y : ℕ). 0 < y * r + z * q) b (ltb-true 0 (y * r + z * q) k))) in
        subst (λ (x : ℕ). ltb (x * r) (z * p) ≡ true) (sym a) (lt-ltb (0 * r) (z * p) (omega (arith, mul-pos Z P)))
    go true a b k = absurd (omega (arith, subst (λ (y : ℕ). z * q < y * r) b (ltb-true (z * q) (y * r) k)))
signed true false false x y z p q r P Q R h k =
    let Z : 0 < z = first_pos z q (omega (arith, ltb-true (y * r) (z * q) k)) in
    lt-ltb 0 (x * r + z * p) (omega (arith, mul-pos Z P))
signed true false true x y z p q r P Q R h k = absurd (true≢false (sym k))
signed true true false x y z p q r P Q R h k = lt-ltb 0 (x * r + z * p) (lt_of_not-le none)
  where
    none : x * r + z * p ≤ 0 → ⊥
    none g =
        let a : x ≡ 0 = no_factor x r R (omega arith) in
        let c : z ≡ 0 = no_factor z p P (omega arith) in
        let l = at_most (y * p) (x * q) (eqb (x * q) (y * p)) true (λ t. sym (eqb→eq (x * q) (y * p) t)) h in
        let b : y ≡ 0 = no_factor y p P (omega (arith, subst (λ (x : ℕ). y * p ≤ x * q) a l)) in
        omega (arith, subst (λ (y : ℕ). 0 < y * r + 0 * q) b (subst (λ (z : ℕ). 0 < y * r + z * q) c (ltb-true 0 (y * r + z * q) k)))
signed true true true x y z p q r P Q R h k =
    lt-ltb (z * p) (x * r) (below_left x y z p q r P (at_most (y * p) (x * q) (eqb (x * q) (y * p)) true (λ t. sym (eqb→eq (x * q) (y * p) t)) h) (ltb-true (z * q) (y * r) k))

-- of any floats, at most and then below is below
pub le_lt : (x y z : Float) → le x y ≡ true → lt y z ≡ true → lt x z ≡ true
unfolding lt le
le_lt nan y z h k = absurd (true≢false (sym h))
le_lt (inf s) nan z h k = absurd (true≢false (sym k))
le_lt (inf true) (inf true) z h k = k
le_lt (inf true) (inf false) nan h k = k
le_lt (inf true) (inf false) (inf u) h k = absurd (true≢false (sym k))
le_lt (inf true) (inf false) (fin u n c) h k = refl
le_lt (inf true) (fin t m b) nan h k = k
le_lt (inf true) (fin t m b) (inf u) h k = k
le_lt (inf true) (fin t m b) (fin u n c) h k = refl
le_lt (inf false) (inf true) z h k = absurd (true≢false (sym h))
le_lt (inf false) (inf false) z h k = k
le_lt (inf false) (fin t m b) z h k = absurd (true≢false (sym h))
le_lt (fin s l a) nan z h k = absurd (true≢false (sym k))
le_lt (fin s l a) (inf true) z h k = absurd (true≢false (sym h))
le_lt (fin s l a) (inf false) nan h k = k
le_lt (fin s l a) (inf false) (inf u) h k = absurd (true≢false (sym k))
le_lt (fin s l a) (inf false) (fin u n c) h k = absurd (true≢false (sym k))
le_lt (fin s l a) (fin t m b) nan h k = k
le_lt (fin s l a) (fin t m b) (inf u) h k = k
le_lt (fin s l a) (fin t m b) (fin u n c) h k = signed s t u (l * up a) (m * up b) (n * up c) (down a) (down b) (down c) (down_pos a) (down_pos b) (down_pos c) h k

pub not_below_itself : (x : Float) → lt x x ≡ false
unfolding lt
not_below_itself nan = refl
not_below_itself (inf true) = refl
not_below_itself (inf false) = refl
not_below_itself (fin true m e) = le-ltb (m * up e * down e) (m * up e * down e) (le_refl (m * up e * down e))
not_below_itself (fin false m e) = le-ltb (m * up e * down e) (m * up e * down e) (le_refl (m * up e * down e))

pub not_lt : (x y : Float) → T (le y x) → lt x y ≡ false
not_lt x y h = go (lt x y) refl
  where
    go : (b : Bool) → lt x y ≡ b → lt x y ≡ false
    go true t = absurd (true≢false (sym (le_lt y x y (is_true (le y x) h) t) ∙ not_below_itself y))
    go false t = t

-- a ≤ b: below, or whatever holds of equal ones
level_or : (a b : ℕ) (v : Bool) → a ≤ b → (a ≡ b → T v) → T (ltb a b || v)
level_or a b v h f = go (ltb a b) refl
  where
    go : (u : Bool) → ltb a b ≡ u → T (u || v)
    go true t = tt
    go false t = f (omega (arith, ltb-false a b t))

level_same : (s : Bool) (a b : ℕ) → a ≡ b → T (level s a s b)
level_same true a b e = rw (eq-eqb a b e) tt
level_same false a b e = rw (eq-eqb a b e) tt

level_zero : (s t : Bool) (a b : ℕ) → a ≡ 0 → b ≡ 0 → T (level s a t b)
level_zero s t a b e f = rw (e, f) (go (beq s t))
  where
    go : (u : Bool) → T (u || true)
    go true = tt
    go false = tt

-- ± a not below ± b, turned round
turned : (s t : Bool) (a b : ℕ) → below s a t b ≡ false → T (below t b s a || level t b s a)
turned false false a b h = level_or b a _ (ltb-false a b h) (level_same false b a)
turned false true a b h = level_or 0 (b + a) _ (omega arith) (λ e. level_zero true false b a (omega arith) (omega arith))
turned true false a b h = level_zero false true b a (omega (arith, ltb-false 0 (a + b) h)) (omega (arith, ltb-false 0 (a + b) h))
turned true true a b h = level_or a b _ (ltb-false b a h) (λ e. level_same true b a (sym e))

-- of two floats that are not NaN, one that is not below the other is at least it
pub le_of_not_lt : (x y : Float) → T (not (is_nan x)) → T (not (is_nan y)) → lt x y ≡ false → T (le y x)
unfolding lt le eq is_nan
le_of_not_lt nan y p q t = absurd p
le_of_not_lt (inf s) nan p q t = absurd q
le_of_not_lt (inf true) (inf true) p q t = tt
le_of_not_lt (inf true) (inf false) p q t = absurd (true≢false t)
le_of_not_lt (inf false) (inf true) p q t = tt
le_of_not_lt (inf false) (inf false) p q t = tt
le_of_not_lt (inf true) (fin u n d) p q t = absurd (true≢false t)
le_of_not_lt (inf false) (fin u n d) p q t = tt
le_of_not_lt (fin s m e) nan p q t = absurd q
le_of_not_lt (fin s m e) (inf true) p q t = tt
le_of_not_lt (fin s m e) (inf false) p q t = absurd (true≢false t)
le_of_not_lt (fin s m e) (fin u n d) p q t = turned s u (m * up e * down d) (n * up d * down e) t

-- neither side of a test that passes is NaN
lt_left : (x y : Float) → lt x y ≡ true → T (not (is_nan x))
unfolding lt is_nan
lt_left nan y t = absurd (true≢false (sym t))
lt_left (inf s) y t = tt
lt_left (fin s m e) y t = tt

le_right : (x y : Float) → le x y ≡ true → T (not (is_nan y))
unfolding lt le eq is_nan
le_right nan nan t = absurd (true≢false (sym t))
le_right (inf s) nan t = absurd (true≢false (sym t))
le_right (fin s m e) nan t = absurd (true≢false (sym t))
le_right x (inf s) t = tt
le_right x (fin s m e) t = tt

-- of any floats, below and then at most is below
pub lt_le : (x y z : Float) → lt x y ≡ true → le y z ≡ true → lt x z ≡ true
lt_le x y z h k = go (lt x z) refl
  where
    go : (b : Bool) → lt x z ≡ b → lt x z ≡ true
    go true t = t
    go false t =
        let back = le_lt z x y (is_true (le z x) (le_of_not_lt x z (lt_left x y h) (le_right y z k) t)) h in
        absurd (true≢false (sym (le_lt y z y k back) ∙ not_below_itself y))

pub le_of_lt : (x y : Float) → lt x y ≡ true → T (le x y)
unfolding le
le_of_lt x y t = rw t tt

-- at most, and not below: equal; at most, and not equal: below
pub equal : (x y : Float) → T (le x y) → lt x y ≡ false → T (eq x y)
unfolding le
equal x y h t = rw t at h

pub below_of_ne : (x y : Float) → T (le x y) → T (ne x y) → lt x y ≡ true
unfolding le ne
below_of_ne x y h d = go (lt x y) (eq x y) h d
  where
    go : (a b : Bool) → T (a || b) → T (not b) → a ≡ true
    go true b h d = refl
    go false true h d = absurd d
    go false false h d = absurd h

level_back : (s t : Bool) (a b : ℕ) → T (level t b s a) → T (level s a t b)
level_back s t a b h = subst (λ (c : ℕ). T (level s a t c)) (sym same) (go s t (subst (λ (c : ℕ). T (level t c s a)) same h))
  where
    same : b ≡ a
    same = eqb→eq b a (and_l (eqb b a) (beq t s || eqb b 0) h)

    go : (s t : Bool) → T (level t a s a) → T (level s a t a)
    go true true h = h
    go true false h = h
    go false true h = h
    go false false h = h

pub eq_back : (x y : Float) → T (eq y x) → T (eq x y)
unfolding eq
eq_back nan nan h = h
eq_back nan (inf t) h = h
eq_back nan (fin t n d) h = h
eq_back (inf s) nan h = h
eq_back (inf true) (inf true) h = h
eq_back (inf true) (inf false) h = h
eq_back (inf false) (inf true) h = h
eq_back (inf false) (inf false) h = h
eq_back (inf s) (fin t n d) h = h
eq_back (fin s m e) nan h = h
eq_back (fin s m e) (inf t) h = h
eq_back (fin s m e) (fin t n d) h = level_back s t (m * up e * down d) (n * up d * down e) h

pub ne_back : (x y : Float) → T (ne x y) → T (ne y x)
unfolding ne
ne_back x y h = go (eq x y) (eq y x) (eq_back x y) h
  where
    go : (a b : Bool) → (T b → T a) → T (not a) → T (not b)
    go true b f h = absurd h
    go false true f h = absurd (f tt)
    go false false f h = tt

-- ---- floats with a clear sign: zero, positive numbers and the positive infinity

-- a ≤ b, as `le` tests it
pub le_of_test : (a b : ℕ) (z : Bool) → T (ltb a b || (eqb a b && z)) → a ≤ b
le_of_test a b z t = at_most a b (eqb a b) z (eqb→eq a b) (is_true (ltb a b || (eqb a b && z)) t)

pub cross : (m : ℕ) (e : ℤ) (n : ℕ) (d : ℤ) → T (le (fin false m e) (fin false n d)) → m * up e * down d ≤ n * up d * down e
unfolding le
cross m e n d t = le_of_test (m * up e * down d) (n * up d * down e) true t

pub le_inf : (x : Float) → T (clear x) → T (le x (inf false))
unfolding le
le_inf nan p = absurd p
le_inf (inf true) p = absurd p
le_inf (inf false) p = tt
le_inf (fin s m e) p = tt

pub fin_le : (m : ℕ) (e : ℤ) (n : ℕ) (d : ℤ) → m * up e * down d ≤ n * up d * down e → T (le (fin false m e) (fin false n d))
fin_le m e n d h = le_of_values (fin false m e) (fin false n d) (m * up e) (down e) (n * up d) (down d) (down_pos e) (down_pos d) (refl, refl) (refl, refl) h

pub number : (x : Float) → T (clear x) → T (not (is_nan x))
unfolding is_nan
number nan p = absurd p
number (inf s) p = tt
number (fin s m e) p = tt

pub le_trans_clear : (x y z : Float) → T (clear x) → T (clear y) → T (clear z) → T (le x y) → T (le y z) → T (le x z)
unfolding le
le_trans_clear x y nan p q r h k = absurd r
le_trans_clear x y (inf true) p q r h k = absurd r
le_trans_clear x y (inf false) p q r h k = le_inf x p
le_trans_clear x y (fin true n d) p q r h k = absurd r
le_trans_clear x nan (fin false n d) p q r h k = absurd q
le_trans_clear x (inf true) (fin false n d) p q r h k = absurd q
le_trans_clear x (inf false) (fin false n d) p q r h k = absurd k
le_trans_clear x (fin true l c) (fin false n d) p q r h k = absurd q
le_trans_clear nan (fin false l c) (fin false n d) p q r h k = absurd p
le_trans_clear (inf true) (fin false l c) (fin false n d) p q r h k = absurd p
le_trans_clear (inf false) (fin false l c) (fin false n d) p q r h k = absurd h
le_trans_clear (fin true m e) (fin false l c) (fin false n d) p q r h k = absurd p
le_trans_clear (fin false m e) (fin false l c) (fin false n d) p q r h k =
    fin_le m e n d (through (m * up e) (l * up c) (n * up d) (down e) (down c) (down d) (down_pos c) (cross m e l c h) (cross l c n d k))

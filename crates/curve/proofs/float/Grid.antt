-- Rounding counted in units of the smallest float, 2 ^ -low: a / c rounds to `grid f a c` units. How far off that is, and what it keeps.
use Rattle.std.proofs.Common.{◌≡◌, ℕ, zero, suc, ◌+◌, ◌*◌, ◌/◌, ◌%◌, ◌^◌, ◌<◌, ◌≤◌, Bool, true, false, not, T, ltb, ◌⊎◌, sym, refl, ap, ◌∙◌, subst, inl, inr, true≢false, le_trans, le_of_eq, le_refl, lt_of_lt_of_le, lt_of_le_of_lt, le_of_lt, mul-le-mul_right, mul_assoc, suc-mul, mul_comm, add-mul, lt_of_mul-lt-mul_right, eq-or-lt_of_le, mul-lt-mul_of_pos_right, div-add-mod', le-div_iff_mul-le, mul-one, mul_right_comm, div-mul-le_self, le_of_mul-le-mul_right, arith, lit<, lit≤, eqb→eq, ltb→lt, nltb→le, pow_pos, pow-add}
use Prim.Native.Nat.{compare, Ordering}
use native.Mathlib.Nat.{eq_of_mul-eq-mul_right}
use lib.Dec.{is_le, compare_is_eq, nleb→lt}
use lib.Ieee.{Float, nan, inf, fin, Format, binary64, prec, low, up, down, nearest, round, le, lt}
use lib.Ieee.Digits.{size_reaches}
use lib.Ieee.Fits.{nearest-le, down_pos, round_is}
use lib.Ieee.Nearest.{closest}
use lib.Ieee.Order.{drop, kept, transfer, round_mono}
use lib.Ieee.Scale.{grid, overflow, finite, round_val, round_under}
use lib.Ieee.Exact.{HasValue, units_val, round_exact}
use Rattle.curve.specs.F64.{clear}
use Rattle.curve.proofs.float.Compare.{cross}
use Rattle.curve.proofs.float.Exact.{finite_value}
use Rattle.curve.proofs.float.Clear.{round-clear}

pub lt_or_le : (a b : ℕ) → (a < b) ⊎ (b ≤ a)
lt_or_le a b = go (ltb a b) (ltb→lt a b) (nltb→le a b)
  where
    go : (x : Bool) → (T x → a < b) → (T (not x) → b ≤ a) → (a < b) ⊎ (b ≤ a)
    go true p q = inl (p tt)
    go false p q = inr (q tt)

-- ---- the error of a rounding
up_step : (n q u r y : ℕ) → q * u + r ≡ n → u ≤ r * 2 → y ≤ suc q * u → 2 * y ≤ 2 * n + u
up_step n q u r y e h k =
    let s : suc q * u ≡ q * u + u = suc-mul q u in
    omega arith

closest_near : (n u : ℕ) → 2 * (closest n u * u) ≤ 2 * n + u
closest_near n u = go (compare (n % u * 2) u) (nleb→lt (n % u * 2) u) (eqb→eq (n % u * 2) u)
  where
    go : (o : Ordering) → (T (not (is_le o)) → u < n % u * 2) → (T (compare_is_eq o) → n % u * 2 ≡ u) → 2 * (nearest (n / u) o * u) ≤ 2 * n + u
    go Ordering.lt a b = let h : n / u * u ≤ n = div-mul-le_self n u in omega arith
    go Ordering.eq a b = up_step n (n / u) u (n % u) _ (div-add-mod' n u) (le_of_eq (sym (b tt))) (mul-le-mul_right u (nearest-le (n / u) Ordering.eq))
    go Ordering.gt a b = let h : u < n % u * 2 = a tt in up_step n (n / u) u (n % u) _ (div-add-mod' n u) (omega arith) (mul-le-mul_right u (nearest-le (n / u) Ordering.gt))

-- what is dropped is below a unit, or below a 2 ^ 20th of n / c; 2 ^ 52 would do
dropped : (n c : ℕ) → 0 < c → c * 2 ^ drop 53 n c * 2 ^ 20 ≤ c * 2 ^ 20 + n
dropped n c C = go (drop 53 n c) refl
  where
    go : (k : ℕ) → drop 53 n c ≡ k → c * 2 ^ k * 2 ^ 20 ≤ c * 2 ^ 20 + n
    go zero e = omega arith
    go (suc k) e =
        let s : 2 ^ (20 + suc k) * c ≤ n = (le-div_iff_mul-le C).0 (size_reaches (n / c) (20 + suc k) (omega arith)) in
        let t : c * 2 ^ suc k * 2 ^ 20 ≡ 2 ^ (20 + suc k) * c = mul_assoc c (2 ^ suc k) (2 ^ 20) ∙ mul_comm c (2 ^ suc k * 2 ^ 20) ∙ ap (λ (z : ℕ). z * c) (mul_comm (2 ^ suc k) (2 ^ 20) ∙ sym (pow-add 2 20 (suc k))) in
        omega arith

-- z is above n by c / 2 and a 2 ^ 21st of n at most
abbrev pub Near : ℕ → ℕ → ℕ → Type 0
Near z n c = 2 * z * 2 ^ 20 ≤ (2 * n + c) * 2 ^ 20 + n

near_units : (n c k : ℕ) → c * 2 ^ k * 2 ^ 20 ≤ c * 2 ^ 20 + n → Near (closest n (c * 2 ^ k) * 2 ^ k * c) n c
near_units n c k d =
    let e : closest n (c * 2 ^ k) * 2 ^ k * c ≡ closest n (c * 2 ^ k) * (c * 2 ^ k) = mul_assoc _ (2 ^ k) c ∙ ap (λ (z : ℕ). closest n (c * 2 ^ k) * z) (mul_comm (2 ^ k) c) in
    let h : 2 * (closest n (c * 2 ^ k) * (c * 2 ^ k)) ≤ 2 * n + c * 2 ^ k = closest_near n (c * 2 ^ k) in
    omega arith

-- so is a / c rounded: half a unit more, or a small part of itself
pub near : (a c : ℕ) → 0 < c → Near (grid binary64 a c * c) (a * 2 ^ 1074) c
near a c C = near_units (a * 2 ^ 1074) c (drop 53 (a * 2 ^ 1074) c) (dropped (a * 2 ^ 1074) c C)

-- both sides divided by u
pub near_cancel : (y n c u : ℕ) → 0 < u → Near (y * u) (n * u) (c * u) → Near y n c
near_cancel y n c u U h =
    let l : 2 * y * 2 ^ 20 * u ≡ 2 * (y * u) * 2 ^ 20 = mul_right_comm (2 * y) (2 ^ 20) u ∙ ap (λ (z : ℕ). z * 2 ^ 20) (mul_assoc 2 y u) in
    let r : ((2 * n + c) * 2 ^ 20 + n) * u ≡ (2 * (n * u) + c * u) * 2 ^ 20 + n * u =
    add-mul ((2 * n + c) * 2 ^ 20) n u ∙ ap (λ (z : ℕ). z + n * u) (mul_right_comm (2 * n + c) (2 ^ 20) u ∙ ap (λ (z : ℕ). z * 2 ^ 20) (add-mul (2 * n) c u ∙ ap (λ (z : ℕ). z + c * u) (mul_assoc 2 n u))) in
    le_of_mul-le-mul_right (le_trans (le_of_eq l) (le_trans h (le_of_eq (sym r)))) U

-- ---- n units are a float
abbrev pub OnGrid : Format → ℕ → Type 0
OnGrid f n = (q : ℕ) × (j : ℕ) × (q < 2 ^ prec f) × (n ≡ q * 2 ^ j)

-- the value of a / c rounded, with either sign
pub value : (f : Format) (s : Bool) (a c : ℕ) → grid f a c < overflow f → HasValue (round f s a c) s (grid f a c) (2 ^ low f)
value f s a c h = subst (λ (z : Float). HasValue z s (grid f a c) (2 ^ low f)) (sym (round_is f s a c)) (units_val f s (kept (prec f) (a * 2 ^ low f) c) (drop (prec f) (a * 2 ^ low f) c) h)

exact : (f : Format) (n : ℕ) → OnGrid f n → n < overflow f → HasValue (round f false n (2 ^ low f)) false n (2 ^ low f)
exact f n g h = round_exact f false n (2 ^ low f) g.0 g.1 (pow_pos (low f)) g.2 (subst (λ (z : ℕ). z < overflow f) g.3 h) (ap (λ (z : ℕ). z * 2 ^ low f) g.3)

pub le_units : (x y : Float) (X Y c : ℕ) → 0 < c → HasValue x false X c → HasValue y false Y c → T (le x y) → X ≤ Y
le_units nan y X Y c C v w h = absurd v
le_units (inf s) y X Y c C v w h = absurd v
le_units (fin true m e) y X Y c C v w h = absurd (true≢false v.0)
le_units (fin false m e) nan X Y c C v w h = absurd w
le_units (fin false m e) (inf s) X Y c C v w h = absurd w
le_units (fin false m e) (fin true n d) X Y c C v w h = absurd (true≢false w.0)
le_units (fin false m e) (fin false n d) X Y c C v w h =
    le_of_mul-le-mul_right (transfer X Y c c (m * up e) (n * up d) (down e) (down d) (down_pos e) (down_pos d) (sym v.1) (sym w.1) (cross m e n d h)) C

-- m / e < n / d are X and Y units
less : (m n e d X Y c : ℕ) → 0 < c → 0 < e → 0 < d → m * c ≡ X * e → n * c ≡ Y * d → m * d < n * e → X < Y
less m n e d X Y c C E D v w h =
    let k : m * d * c < n * e * c = mul-lt-mul_of_pos_right h C in
    let l : m * d * c ≡ X * (e * d) = mul_right_comm m d c ∙ ap (λ (z : ℕ). z * d) v ∙ mul_assoc X e d in
    let r : n * e * c ≡ Y * (e * d) = mul_right_comm n e c ∙ ap (λ (z : ℕ). z * e) w ∙ mul_assoc Y d e ∙ ap (λ (z : ℕ). Y * z) (mul_comm d e) in
    lt_of_mul-lt-mul_right (e * d) (lt_of_le_of_lt (le_of_eq (sym l)) (lt_of_lt_of_le k (le_of_eq r)))

pub lt_units : (x y : Float) (X Y c : ℕ) → 0 < c → HasValue x false X c → HasValue y false Y c → lt x y ≡ true → X < Y
unfolding lt
lt_units nan y X Y c C v w t = absurd v
lt_units (inf s) y X Y c C v w t = absurd v
lt_units (fin true m e) y X Y c C v w t = absurd (true≢false v.0)
lt_units (fin false m e) nan X Y c C v w t = absurd w
lt_units (fin false m e) (inf s) X Y c C v w t = absurd w
lt_units (fin false m e) (fin true n d) X Y c C v w t = absurd (true≢false w.0)
lt_units (fin false m e) (fin false n d) X Y c C v w t = less (m * up e) (n * up d) (down e) (down d) X Y c C (down_pos e) (down_pos d) v.1 w.1 (ltb→lt _ _ (subst T (sym t) tt))

finite_below : (x y : Float) (Y c : ℕ) → T (clear x) → HasValue y false Y c → T (le x y) → T (finite x)
unfolding le
finite_below nan y Y c p w h = absurd p
finite_below (inf true) y Y c p w h = absurd p
finite_below (inf false) nan Y c p w h = absurd w
finite_below (inf false) (inf s) Y c p w h = absurd w
finite_below (inf false) (fin s n d) Y c p w h = absurd h
finite_below (fin s m e) y Y c p w h = tt

one_value : (x : Float) (s : Bool) (a b c : ℕ) → HasValue x s a c → HasValue x s b c → a ≡ b
one_value nan s a b c v w = absurd v
one_value (inf t) s a b c v w = absurd v
one_value (fin t m e) s a b c v w = eq_of_mul-eq-mul_right (down e) (down_pos e) a b (sym v.1 ∙ w.1)

module _ (f : Format) where
  -- a larger fraction rounds to no fewer units
  pub grid_mono : (a b c d : ℕ) → 0 < b → 0 < d → grid f c d < overflow f → a * d ≤ c * b → grid f a b ≤ grid f c d
  grid_mono a b c d B D o h =
      let x = round f false a b in
      let y = round f false c d in
      let w : HasValue y false (grid f c d) (2 ^ low f) = round_val f c d o in
      let l : T (le x y) = round_mono f a b c d B D h in
      le_units x y (grid f a b) (grid f c d) (2 ^ low f) (pow_pos (low f)) (round_val f a b (round_under f a b (finite_below x y (grid f c d) (2 ^ low f) (round-clear f a b) w l))) w l

  pub grid_exact : (n : ℕ) → OnGrid f n → n < overflow f → grid f n (2 ^ low f) ≡ n
  grid_exact n g o =
      let x = round f false n (2 ^ low f) in
      let v : HasValue x false n (2 ^ low f) = exact f n g o in
      one_value x false (grid f n (2 ^ low f)) n (2 ^ low f) (round_val f n (2 ^ low f) (round_under f n (2 ^ low f) (finite_value x false n (2 ^ low f) v))) v

  -- where n units are a float, what is at most n units rounds to at most n, and what is at least n to at least n
  pub stays_below : (n a c : ℕ) → OnGrid f n → n < overflow f → 0 < c → a * 2 ^ low f ≤ n * c → grid f a c ≤ n
  stays_below n a c g o C h =
      let e : grid f n (2 ^ low f) ≡ n = grid_exact n g o in
      subst (λ (z : ℕ). grid f a c ≤ z) e (grid_mono a c n (2 ^ low f) C (pow_pos (low f)) (subst (λ (z : ℕ). z < overflow f) (sym e) o) h)

  pub stays_above : (n a c : ℕ) → OnGrid f n → n < overflow f → 0 < c → grid f a c < overflow f → n * c ≤ a * 2 ^ low f → n ≤ grid f a c
  stays_above n a c g o C k h = subst (λ (z : ℕ). z ≤ grid f a c) (grid_exact n g o) (grid_mono n (2 ^ low f) a c (pow_pos (low f)) C k h)

-- ---- two differences X < Y, in units, round to A and B with A < B, or A is not small
abbrev pub Apart : ℕ → ℕ → Type 0
Apart A B = (A < B) ⊎ (5 ≤ A) × (A ≤ B)

pub apart_pos : (A B : ℕ) → Apart A B → 0 < B
apart_pos A B (inl l) = omega arith
apart_pos A B (inr l) = omega (arith, l.0, l.1)

small_grid : (n : ℕ) → n ≤ 2 ^ 53 → OnGrid binary64 n
small_grid n h = go (eq-or-lt_of_le h)
  where
    go : (n ≡ 2 ^ 53) ⊎ (n < 2 ^ 53) → OnGrid binary64 n
    go (inl e) = (1, 53, lit< tt, e)
    go (inr l) = (n, 0, l, sym (mul-one n))

small_under : (n : ℕ) → n ≤ 2 ^ 53 → n < overflow binary64
small_under n h = lt_of_le_of_lt h (lit< tt)

pub apart : (X Y : ℕ) → X < Y → grid binary64 Y (2 ^ 1074) < overflow binary64 → Apart (grid binary64 X (2 ^ 1074)) (grid binary64 Y (2 ^ 1074))
apart X Y l o = go (lt_or_le X (2 ^ 53))
  where
    go : (X < 2 ^ 53) ⊎ (2 ^ 53 ≤ X) → Apart (grid binary64 X (2 ^ 1074)) (grid binary64 Y (2 ^ 1074))
    go (inl h) = inl (subst (λ (z : ℕ). z < grid binary64 Y (2 ^ 1074)) (sym (grid_exact binary64 X (small_grid X (le_of_lt h)) (small_under X (le_of_lt h))))
        (stays_above binary64 (suc X) Y (2 ^ 1074) (small_grid (suc X) h) (small_under (suc X) h) (pow_pos 1074) o (mul-le-mul_right (2 ^ 1074) l)))
    go (inr h) =
        let m : grid binary64 X (2 ^ 1074) ≤ grid binary64 Y (2 ^ 1074) = grid_mono binary64 X (2 ^ 1074) Y (2 ^ 1074) (pow_pos 1074) (pow_pos 1074) o (mul-le-mul_right (2 ^ 1074) (le_of_lt l)) in
        inr (le_trans (lit≤ tt) (stays_above binary64 (2 ^ 53) X (2 ^ 1074) (small_grid (2 ^ 53) (le_refl (2 ^ 53))) (small_under (2 ^ 53) (le_refl (2 ^ 53))) (pow_pos 1074) (lt_of_le_of_lt m o) (mul-le-mul_right (2 ^ 1074) h)), m)

-- Between two points within the limits the interpolated power never gets below 0, however p0 ⊕ (s ⊖ s0) ⊗ (p1 ⊖ p0) ⊘ (s1 ⊖ s0) is rounded.
use Rattle.std.proofs.Common.{◌≡◌, ℕ, zero, suc, ◌+◌, ◌-◌, ◌*◌, ◌^◌, ◌<◌, ◌≤◌, true, false, T, ◌⊎◌, sym, refl, ◌∙◌, subst, inl, inr, zero-le, le_trans, le_of_eq, lt_of_le_of_lt, le_of_lt, mul-le-mul_right, mul_assoc, mul_comm, mul-le-mul, mul-le-mul_left, mul-pos, one-mul, zero-mul, mul-add, mul_left_comm, arith, lit<, lit≤, pow_pos}
use lib.Ieee.{Float, binary64, round, add, sub, mul, div}
use lib.Ieee.Exact.{HasValue}
use lib.Ieee.Scale.{grid, overflow}
use lib.Ieee.Positive.{positive_of_value}
use Rattle.curve.proofs.float.Clear.{round-clear, add_clear, div_clear}
use Rattle.curve.proofs.float.Grid.{OnGrid, Near, near, apart, value, stays_below, lt_or_le, Apart, apart_pos, near_cancel}
use Rattle.curve.proofs.float.InUnits.{Units, add_units, mul_units, div_units, cancels, difference, fall, clear_value}
use Rattle.curve.specs.F64.{clear}

-- A power that rises adds a float with a clear sign. A falling one is counted in units of the smallest float, u = 2 ^ 1074 of them making 1: the differences of SOC are A and B units,
-- P is the power at s0, D what it falls by to s1, and M the product of A and D, as rounded. What is taken off P rounds to at most P if M * u ≤ B * P, since P is a float.
-- M * u is above A * D by half a u and a small part of A * D at most, and D is below P by about u / 8, the least power: that is enough where 5 ≤ A ≤ B.
-- Below 5 units the differences are exact and A < B, so B has one more P than A, and that covers the half.
module _ (u D P z : ℕ) (U : 0 < u) (d : D ≤ 1024 * u) (p : 64 * D + 7 * u ≤ 64 * P) where
  linear : (x v y : ℕ) → x ≤ 1024 * v → 64 * x + 7 * v ≤ 64 * y → 5 * u ≤ v → Near z x u → z ≤ y
  linear x v y i j k h = omega arith

  large : (A : ℕ) → 5 ≤ A → Near z (A * D) u → z ≤ A * P
  large A a h =
      let i : A * D ≤ A * (1024 * u) = mul-le-mul_left A d in
      let j : A * (64 * D + 7 * u) ≤ A * (64 * P) = mul-le-mul_left A p in
      linear (A * D) (A * u) (A * P) (le_trans i (le_of_eq (mul_left_comm A 1024 u))) (simp (mul-add, mul_left_comm A) at j) (mul-le-mul_right u a) h

  strictly : (A : ℕ) → (z ≡ 0) ⊎ (u ≤ z) → Near z (A * D) u → z ≤ suc A * P
  strictly A (inl e) h = subst (λ (y : ℕ). y ≤ suc A * P) (sym e) zero-le
  strictly zero (inr k) h = omega arith
  strictly (suc zero) (inr k) h = omega arith
  strictly (suc (suc zero)) (inr k) h = omega arith
  strictly (suc (suc (suc zero))) (inr k) h = omega arith
  strictly (suc (suc (suc (suc zero)))) (inr k) h = omega arith
  strictly (suc (suc (suc (suc (suc a))))) (inr k) h = le_trans (large (suc (suc (suc (suc (suc a))))) (omega arith) h) (mul-le-mul_right P (omega arith))

  taken : (A B : ℕ) → Apart A B → (z ≡ 0) ⊎ (u ≤ z) → Near z (A * D) u → z ≤ B * P
  taken A B (inl l) e h = le_trans (strictly A e h) (mul-le-mul_right P l)
  taken A B (inr l) e h = le_trans (large A l.0 h) (mul-le-mul_right P l.1)

-- D is below P by about an eighth
fall_below : (u P Q D : ℕ) → 4096 ≤ u → u ≤ 8 * Q → Q ≤ P → P ≤ 1024 * u → Near D (P - Q) 1 → 64 * D + 7 * u ≤ 64 * P
fall_below u P Q D a b c d h = omega arith

near_fall : (q : ℕ) → Near (grid binary64 q (2 ^ 1074)) q 1
near_fall q = near_cancel (grid binary64 q (2 ^ 1074)) q 1 (2 ^ 1074) (pow_pos 1074) (near q (2 ^ 1074) (pow_pos 1074))

near_product : (A D : ℕ) → Near (grid binary64 (A * D) (2 ^ 1074 * 2 ^ 1074) * 2 ^ 1074) (A * D) (2 ^ 1074)
near_product A D =
    let M = grid binary64 (A * D) (2 ^ 1074 * 2 ^ 1074) in
    near_cancel (M * 2 ^ 1074) (A * D) (2 ^ 1074) (2 ^ 1074) (pow_pos 1074)
    (subst (λ (z : ℕ). Near z (A * D * 2 ^ 1074) (2 ^ 1074 * 2 ^ 1074)) (sym (mul_assoc M (2 ^ 1074) (2 ^ 1074))) (near (A * D) (2 ^ 1074 * 2 ^ 1074) (mul-pos (pow_pos 1074) (pow_pos 1074))))

none_or_one : (M u : ℕ) → (M * u ≡ 0) ⊎ (u ≤ M * u)
none_or_one zero u = inl (zero-mul u)
none_or_one (suc M) u = inr (le_trans (le_of_eq (sym (one-mul u))) (mul-le-mul_right u (omega arith)))

-- 1024 kW
most_grid : OnGrid binary64 (1024 * 2 ^ 1074)
most_grid = (1, 1084, lit< tt, refl)

most_under : 1024 * 2 ^ 1074 < overflow binary64
most_under = lit< tt

-- ---- a falling power: d is D units with its sign set
module _ (a b d p : Float) (A B D P : ℕ) (va : HasValue a false A (2 ^ 1074)) (vb : HasValue b false B (2 ^ 1074)) (vd : HasValue d true D (2 ^ 1074)) (vp : Units binary64 p P)
    (ab : Apart A B) (a1 : A ≤ 2 ^ 1074) (d1 : D ≤ 1024 * 2 ^ 1074) (dp : 64 * D + 7 * 2 ^ 1074 ≤ 64 * P) where
  -- M, the product
  product_below : grid binary64 (A * D) (2 ^ 1074 * 2 ^ 1074) ≤ 1024 * 2 ^ 1074
  product_below =
      stays_below binary64 (1024 * 2 ^ 1074) (A * D) (2 ^ 1074 * 2 ^ 1074) most_grid most_under (mul-pos (pow_pos 1074) (pow_pos 1074))
      (product (2 ^ 1074) A D a1 d1)
    where
      product : (u A D : ℕ) → A ≤ u → D ≤ 1024 * u → A * D * u ≤ 1024 * u * (u * u)
      product u A D h k = le_trans (mul-le-mul_right u (le_trans (mul-le-mul h k) (le_of_eq (mul_comm u (1024 * u))))) (le_of_eq (mul_assoc (1024 * u) u u))

  product_value : HasValue (mul binary64 a d) true (grid binary64 (A * D) (2 ^ 1074 * 2 ^ 1074)) (2 ^ 1074)
  product_value =
      subst (λ (z : Float). HasValue z true (grid binary64 (A * D) (2 ^ 1074 * 2 ^ 1074)) (2 ^ 1074)) (sym (mul_units binary64 a d true A D va vd))
      (value binary64 true (A * D) (2 ^ 1074 * 2 ^ 1074) (lt_of_le_of_lt product_below most_under))

  falling : T (clear (add binary64 p (div binary64 (mul binary64 a d) b)))
  falling =
      let M = grid binary64 (A * D) (2 ^ 1074 * 2 ^ 1074) in
      let t = div binary64 (mul binary64 a d) b in
      let n : Near (M * 2 ^ 1074) (A * D) (2 ^ 1074) = near_product A D in
      let m : M * 2 ^ 1074 ≤ B * P = taken (2 ^ 1074) D P (M * 2 ^ 1074) (pow_pos 1074) d1 dp A B ab (none_or_one M (2 ^ 1074)) n in
      let q : grid binary64 M B ≤ P = stays_below binary64 P M B vp.held vp.under (apart_pos A B ab) (le_trans m (le_of_eq (mul_comm B P))) in
      let e : t ≡ round binary64 true M B = div_units binary64 (mul binary64 a d) b true M B product_value vb (apart_pos A B ab) in
      let r : HasValue t true (grid binary64 M B) (2 ^ 1074) = subst (λ (z : Float). HasValue z true (grid binary64 M B) (2 ^ 1074)) (sym e) (value binary64 true M B (lt_of_le_of_lt q vp.under)) in
      subst (λ (z : Float). T (clear z)) (sym (add_units binary64 p t true P (grid binary64 M B) vp.value r ∙ cancels binary64 P (grid binary64 M B) (2 ^ 1074) q)) (round-clear binary64 _ _)

-- ---- a power that stays or rises
rising : (a b d p : Float) (A B D : ℕ) → HasValue a false A (2 ^ 1074) → HasValue b false B (2 ^ 1074) → HasValue d false D (2 ^ 1074) → T (clear p) → 0 < B → T (clear (add binary64 p (div binary64 (mul binary64 a d) b)))
rising a b d p A B D va vb vd cp B0 =
    add_clear binary64 p (div binary64 (mul binary64 a d) b) cp
    (div_clear binary64 (mul binary64 a d) b (subst (λ (z : Float). T (clear z)) (sym (mul_units binary64 a d false A D va vd)) (round-clear binary64 _ _)) (positive_of_value b B (2 ^ 1074) vb B0))

pub interpolated : (s0 s s1 p0 p1 : Float) (S0 S S1 P0 P1 : ℕ) → Units binary64 s0 S0 → Units binary64 s S → Units binary64 s1 S1 → Units binary64 p0 P0 → Units binary64 p1 P1
    → S0 ≤ S → S < S1 → S1 ≤ 2 ^ 1074 → 2 ^ 1074 ≤ 8 * P1 → P0 ≤ 1024 * 2 ^ 1074
    → T (clear (add binary64 p0 (div binary64 (mul binary64 (sub binary64 s s0) (sub binary64 p1 p0)) (sub binary64 s1 s0))))
interpolated s0 s s1 p0 p1 S0 S S1 P0 P1 v0 v v1 w0 w1 from to whole least most =
    let da = difference binary64 s s0 S S0 v v0 from in
    let db = difference binary64 s1 s0 S1 S0 v1 v0 (le_trans from (le_of_lt to)) in
    let ab = apart (S - S0) (S1 - S0) (less S0 S S1 from to) (lt_of_le_of_lt db.1 v1.under) in
    go (lt_or_le P1 P0) da.0 (le_trans da.1 (le_trans (le_of_lt to) whole)) db.0 ab
  where
    less : (x y z : ℕ) → x ≤ y → y < z → y - x < z - x
    less x y z h k = omega arith

    A : ℕ
    A = grid binary64 (S - S0) (2 ^ 1074)

    B : ℕ
    B = grid binary64 (S1 - S0) (2 ^ 1074)

    go : (P1 < P0) ⊎ (P0 ≤ P1) → HasValue (sub binary64 s s0) false A (2 ^ 1074) → A ≤ 2 ^ 1074 → HasValue (sub binary64 s1 s0) false B (2 ^ 1074) → Apart A B
        → T (clear (add binary64 p0 (div binary64 (mul binary64 (sub binary64 s s0) (sub binary64 p1 p0)) (sub binary64 s1 s0))))
    go (inl h) va a1 vb ab =
        let dd = fall binary64 p1 p0 P1 P0 w1 w0 h in
        let D = grid binary64 (P0 - P1) (2 ^ 1074) in
        falling (sub binary64 s s0) (sub binary64 s1 s0) (sub binary64 p1 p0) p0 A B D P0 va vb dd.0 w0 ab a1 (le_trans dd.1 most)
        (fall_below (2 ^ 1074) P0 P1 D (lit≤ tt) least (le_of_lt h) most (near_fall (P0 - P1)))
    go (inr h) va a1 vb ab =
        let dd = difference binary64 p1 p0 P1 P0 w1 w0 h in
        rising (sub binary64 s s0) (sub binary64 s1 s0) (sub binary64 p1 p0) p0 A B (grid binary64 (P1 - P0) (2 ^ 1074)) va vb dd.0 (clear_value p0 P0 (2 ^ 1074) w0.value) (apart_pos A B ab)

-- On a curve whose points are within the limits the power never has its sign set, at any SOC from 0 to 1.
use Rattle.std.proofs.Common.{◌≡◌, ℕ, zero, suc, ◌*◌, ◌^◌, ◌<◌, ◌≤◌, Bool, true, false, cond, T, ltb, List, [], ◌∷◌, length, get_or, sym, refl, subst, mul-le-mul_left, arith, ltb→lt, pow_pos}
use lib.Ieee.{Float, nan, inf, fin, binary64, round, add, sub, mul, div, lt, le}
use lib.Ieee.Exact.{HasValue}
use Rattle.curve.proofs.float.Monotone.{at_least}
use Rattle.curve.specs.F64.{ratio, clear}
use Rattle.curve.specs.Curve.{origin, between, reached, power_after, power_at}
use Rattle.curve.specs.declared.points.Point.{Point}
use Rattle.curve.proofs.float.Grid.{le_units, lt_units}
use Rattle.curve.proofs.float.InUnits.{Units, in_units}
use Rattle.curve.proofs.charge_profile.AtPoint.{held_at}
use Rattle.curve.proofs.charge_profile.Interpolation.{interpolated}
use Rattle.curve.specs.Limits.{Within, Soc, Power, Held}

-- ---- SOCs and powers in units of the smallest float
no_inf : (y : Float) (H : ℕ) → HasValue y false H (2 ^ 1074) → T (le (inf false) y) → ⊥
unfolding le
no_inf nan H w t = w
no_inf (inf s) H w t = w
no_inf (fin s n d) H w t = t

in_range_lem : (lo hi x : Float) (L H : ℕ) → HasValue lo false L (2 ^ 1074) → HasValue hi false H (2 ^ 1074) → Within lo hi x → (n : ℕ) × Units binary64 x n × (L ≤ n) × (n ≤ H)
in_range_lem lo hi nan L H v w r = absurd r.clear
in_range_lem lo hi (inf true) L H v w r = absurd r.clear
in_range_lem lo hi (inf false) L H v w r = absurd (no_inf hi H w r.high)
in_range_lem lo hi (fin true m e) L H v w r = absurd r.clear
in_range_lem lo hi (fin false m e) L H v w r =
    let u = in_units binary64 m e r.fits in
    (u.0, u.1, le_units lo (fin false m e) L u.0 (2 ^ 1074) (pow_pos 1074) v u.1.value r.low, le_units (fin false m e) hi u.0 H (2 ^ 1074) (pow_pos 1074) u.1.value w r.high)

-- what the limits are
zero_value : HasValue (ratio 0 1) false 0 (2 ^ 1074)
unfolding ratio
zero_value = (refl, refl)

one_value : HasValue (ratio 1 1) false (2 ^ 1074) (2 ^ 1074)
unfolding ratio
one_value = (refl, refl)

eighth_value : HasValue (ratio 1 8) false (2 ^ 1071) (2 ^ 1074)
unfolding ratio
eighth_value = (refl, refl)

most_value : HasValue (ratio 1024 1) false (1024 * 2 ^ 1074) (2 ^ 1074)
unfolding ratio
most_value = (refl, refl)

pub soc_units : (x : Float) → Soc x → (n : ℕ) × Units binary64 x n × (n ≤ 2 ^ 1074)
soc_units x h = let r = in_range_lem (ratio 0 1) (ratio 1 1) x 0 (2 ^ 1074) zero_value one_value h in (r.0, r.1, r.3)

power_units : (x : Float) → Power x → (n : ℕ) × Units binary64 x n × (2 ^ 1074 ≤ 8 * n) × (n ≤ 1024 * 2 ^ 1074)
power_units x h =
    let r = in_range_lem (ratio 1 8) (ratio 1024 1) x (2 ^ 1071) (1024 * 2 ^ 1074) eighth_value most_value h in
    (r.0, r.1, mul-le-mul_left 8 r.2, r.3)

-- ---- on the line between two points
between-clear : (p q : Point) (s : Float) → Soc p.soc → Power p.power.0 → Soc q.soc → Power q.power.0 → Soc s → lt s p.soc ≡ false → lt s q.soc ≡ true → T (clear (between p q s).0)
between-clear p q s sp pp sq pq ss l h =
    let S0 = soc_units p.soc sp in
    let S = soc_units s ss in
    let S1 = soc_units q.soc sq in
    let P0 = power_units p.power.0 pp in
    let P1 = power_units q.power.0 pq in
    interpolated p.soc s q.soc p.power.0 q.power.0 S0.0 S.0 S1.0 P0.0 P1.0 S0.1 S.1 S1.1 P0.1 P1.1
    (le_units p.soc s S0.0 S.0 (2 ^ 1074) (pow_pos 1074) S0.1.value S.1.value (at_least s p.soc ss.clear sp.clear l))
    (lt_units s q.soc S.0 S1.0 (2 ^ 1074) (pow_pos 1074) S.1.value S1.1.value h)
    S1.2 P1.2 P0.3

-- ---- the two points that the search finds
module _ (s : Float) where
  -- the last one reached is not above s
  reached-below : (ps : List Point) (i : ℕ) → reached s ps ≡ suc i → lt s (get_or ps i origin).soc ≡ false
  unfolding reached
  reached-below [] i e = absurd (omega arith)
  reached-below (p ∷ ps) i e = go (lt s p.soc) refl i e (reached-below ps)
    where
      go : (b : Bool) → lt s p.soc ≡ b → (i : ℕ) → cond b 0 (suc (reached s ps)) ≡ suc i → ((j : ℕ) → reached s ps ≡ suc j → lt s (get_or ps j origin).soc ≡ false) → lt s (get_or (p ∷ ps) i origin).soc ≡ false
      go true t i e ih = absurd (omega arith)
      go false t zero e ih = t
      go false t (suc i) e ih = ih i (omega arith)

  -- the one after it is
  reached-above : (ps : List Point) (i : ℕ) → reached s ps ≡ i → i < length ps → lt s (get_or ps i origin).soc ≡ true
  unfolding reached
  reached-above [] i e h = absurd (omega arith)
  reached-above (p ∷ ps) i e h = go (lt s p.soc) refl i e h (reached-above ps)
    where
      go : (b : Bool) → lt s p.soc ≡ b → (i : ℕ) → cond b 0 (suc (reached s ps)) ≡ i → i < length (p ∷ ps) → ((j : ℕ) → reached s ps ≡ j → j < length ps → lt s (get_or ps j origin).soc ≡ true) → lt s (get_or (p ∷ ps) i origin).soc ≡ true
      go true t zero e h ih = t
      go true t (suc i) e h ih = absurd (omega arith)
      go false t zero e h ih = absurd (omega arith)
      go false t (suc i) e h ih = ih i (omega arith) (omega arith)

-- ---- the law
own_power : (ps : List Point) (i : ℕ) → Held ps → T (clear (get_or ps i origin).power.0)
unfolding Held ratio
own_power [] i h = tt
own_power (p ∷ ps) zero h = h.1.clear
own_power (p ∷ ps) (suc i) h = own_power ps i h.2

pub power_clear : (ps : List Point) (s : Float) → Held ps → Soc s → T (clear (power_at ps s).0)
unfolding power_at
power_clear ps s h t = go (reached s ps) refl
  where
    inner : (i : ℕ) → reached s ps ≡ suc i → (b : Bool) → ltb (suc i) (length ps) ≡ b → T (clear (cond b (between (get_or ps i origin) (get_or ps (suc i) origin) s) (get_or ps i origin).power).0)
    inner i e true l =
        let l' : suc i < length ps = ltb→lt (suc i) (length ps) (subst T (sym l) tt) in
        let p = held_at ps i h (omega arith) in
        let q = held_at ps (suc i) h l' in
        between-clear (get_or ps i origin) (get_or ps (suc i) origin) s p.0 p.1 q.0 q.1 t (reached-below s ps i e) (reached-above s ps (suc i) e l')
    inner i e false l = own_power ps i h

    go : (n : ℕ) → reached s ps ≡ n → T (clear (power_after ps s n).0)
    go zero e = own_power ps 0 h
    go (suc i) e = inner i e (ltb (suc i) (length ps)) refl

-- ---- with a least power of 1/16 kW it would not hold: between 0.32 kW at SOC 0 and 1/16 kW at three units the power at two units is below 0
abbrev smallest : ℕ → Float
smallest n = round binary64 false n (2 ^ 1074)

a_sixteenth : lt (between (record { soc = ratio 0 1; power = record { 0 = ratio 8 25 } }) (record { soc = smallest 3; power = record { 0 = ratio 1 16 } }) (smallest 2)).0 (ratio 0 1) ≡ true
unfolding ratio round lt add sub mul div
a_sixteenth = refl

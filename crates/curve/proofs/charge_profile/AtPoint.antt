-- At a point of a strictly rising curve within the limits the power is the point's power, bit for bit.
use Rattle.std.proofs.Common.{◌≡◌, ℕ, zero, suc, ◌*◌, ◌<◌, ◌≤◌, Bool, true, false, cond, T, ltb, List, [], ◌∷◌, length, get_or, ℤ, refl, ap, ◌∙◌, subst, arith, ltb→lt}
use lib.Ieee.{Float, nan, inf, fin, up, down, lt, le}
use lib.Ieee.Bits.{is_true}
use lib.Ieee.Positive.{above, above_of_le}
use Rattle.curve.specs.F64.{◌⊕◌, ◌⊖◌, ◌⊗◌, ◌⊘◌, ratio, clear}
use Rattle.curve.specs.Limits.{Soc, Power, Held}
use Rattle.curve.specs.Curve.{origin, between, reached, power_after, power_at, curve_of}
use Rattle.curve.specs.Code.Rising.{Above, Rises}
use Rattle.curve.specs.declared.points.Point.{Point}
use Rattle.curve.proofs.float.Compare.{le_lt, not_below_itself, not_lt, le_of_lt, le_of_test}
use Rattle.curve.proofs.float.Exact.{less_itself, times_zero, over_zero, plus_zero, finite_difference, difference_above}
use Rattle.curve.proofs.points.Rising.{behind}
use Rattle.curve.proofs.sort.Sorted.{Different, held_socs, rises_strictly}
use Rattle.curve.proofs.sort.Held.{curve_held}

-- ---- the point at a place
pub held_at : (ps : List Point) (i : ℕ) → Held ps → i < length ps → Soc (get_or ps i origin).soc × Power (get_or ps i origin).power.0
unfolding Held
held_at [] i k h = absurd (omega arith)
held_at (p ∷ ps) zero k h = (k.0, k.1)
held_at (p ∷ ps) (suc i) k h = held_at ps i k.2 (omega arith)

above_all : (s : Float) (ps : List Point) (i : ℕ) → Above lt s ps → i < length ps → lt s (get_or ps i origin).soc ≡ true
unfolding Above
above_all s [] i a h = absurd (omega arith)
above_all s (p ∷ ps) zero a h = is_true (lt s p.soc) a.0
above_all s (p ∷ ps) (suc i) a h =
    le_lt s p.soc (get_or ps i origin).soc (is_true (le s p.soc) (le_of_lt s p.soc (is_true (lt s p.soc) a.0))) (above_all p.soc ps i a.1 (omega arith))

next : (ps : List Point) (i : ℕ) → Rises lt ps → suc i < length ps → lt (get_or ps i origin).soc (get_or ps (suc i) origin).soc ≡ true
unfolding Rises
next [] i r h = absurd (omega arith)
next (p ∷ ps) zero r h = above_all p.soc ps 0 r (omega arith)
next (p ∷ ps) (suc i) r h = next ps i (behind lt p ps r) (omega arith)

-- ---- the search finds it
reached_none : (s : Float) (ps : List Point) → Above lt s ps → reached s ps ≡ 0
unfolding Above reached
reached_none s [] a = refl
reached_none s (p ∷ ps) a = rw (is_true (lt s p.soc) a.0)

pub reached-point : (ps : List Point) (i : ℕ) → Rises lt ps → i < length ps → reached (get_or ps i origin).soc ps ≡ suc i
unfolding Rises Above reached
reached-point [] i r h = absurd (omega arith)
reached-point (p ∷ ps) zero r h = rw (not_below_itself p.soc, reached_none p.soc ps r)
reached-point (p ∷ ps) (suc i) r h =
    let s = (get_or ps i origin).soc in
    let o : lt s p.soc ≡ false = not_lt s p.soc (le_of_lt p.soc s (above_all p.soc ps i r (omega arith))) in
    rw o (ap suc (reached-point ps i (behind lt p ps r) (omega arith)))

-- ---- between two points, at the first
at_most : (m : ℕ) (e : ℤ) → T (le (fin false m e) (ratio 1024 1)) → m * up e ≤ 1024 * down e
unfolding le ratio
at_most m e t = omega (arith, le_of_test (m * up e * 1) (1024 * down e) true t)

module _ (s : Float) (h : Soc s) where
  soc_number : (m : ℕ) × (e : ℤ) × (s ≡ fin false m e)
  unfolding le ratio
  soc_number = go s h.clear h.high
    where
      go : (x : Float) → T (clear x) → T (le x (ratio 1 1)) → (m : ℕ) × (e : ℤ) × (x ≡ fin false m e)
      go nan p q = absurd p
      go (inf true) p q = absurd p
      go (inf false) p q = absurd q
      go (fin true m e) p q = absurd p
      go (fin false m e) p q = (m, e, refl)

module _ (s : Float) (h : Power s) where
  -- not 0
  power_number : (m : ℕ) × (e : ℤ) × (s ≡ fin false (suc m) e)
  unfolding le ratio
  power_number = go s h.clear h.high (above_of_le (ratio 1 8) s tt h.low)
    where
      go : (x : Float) → T (clear x) → T (le x (ratio 1024 1)) → T (above x) → (m : ℕ) × (e : ℤ) × (x ≡ fin false (suc m) e)
      go nan p q a = absurd p
      go (inf true) p q a = absurd p
      go (inf false) p q a = absurd q
      go (fin true m e) p q a = absurd p
      go (fin false zero e) p q a = absurd a
      go (fin false (suc m) e) p q a = (m, e, refl)

numbers : (a : ℕ) (b : ℤ) (c : ℕ) (d : ℤ) (m : ℕ) (e : ℤ) (n : ℕ) (g : ℤ) → Soc (fin false a b) → Soc (fin false c d) → Power (fin false (suc m) e) → Power (fin false n g)
    → lt (fin false a b) (fin false c d) ≡ true
    → fin false (suc m) e ⊕ (fin false a b ⊖ fin false a b) ⊗ (fin false n g ⊖ fin false (suc m) e) ⊘ (fin false c d ⊖ fin false a b) ≡ fin false (suc m) e
numbers a b c d m e n g hs ht hp hq l =
    let p = fin false (suc m) e in
    let rise = fin false n g ⊖ p in
    let span = fin false c d ⊖ fin false a b in
    let times = times_zero rise (finite_difference n g (suc m) e (at_most n g hq.high) (at_most (suc m) e hp.high)) in
    let over = over_zero times.0 span (difference_above c d a b ht.fits hs.fits l) in
    ap (λ (x : Float). p ⊕ x ⊗ rise ⊘ span) (less_itself a b) ∙ ap (λ (x : Float). p ⊕ x ⊘ span) times.1 ∙ ap (λ (x : Float). p ⊕ x) over.1 ∙ plus_zero m e over.0 hp.fits

pub between_first : (p q : Point) → Soc p.soc → Soc q.soc → Power p.power.0 → Power q.power.0 → lt p.soc q.soc ≡ true → between p q p.soc ≡ p.power
between_first p q hs ht hp hq l =
    ap (λ (x : Float). record { 0 = x }) (go p.soc q.soc p.power.0 q.power.0 (soc_number p.soc hs) (soc_number q.soc ht) (power_number p.power.0 hp) (power_number q.power.0 hq) hs ht hp hq l)
  where
    Number : Float → Type 0
    Number x = (m : ℕ) × (e : ℤ) × (x ≡ fin false m e)

    go : (s t x y : Float) → Number s → Number t → ((m : ℕ) × (e : ℤ) × (x ≡ fin false (suc m) e)) → ((m : ℕ) × (e : ℤ) × (y ≡ fin false (suc m) e)) → Soc s → Soc t → Power x → Power y → lt s t ≡ true
        → x ⊕ (s ⊖ s) ⊗ (y ⊖ x) ⊘ (t ⊖ s) ≡ x
    go s t x y a b c d hs ht hp hq l =
        rw (a.2, b.2, c.2, d.2)
        (numbers a.0 a.1 b.0 b.1 c.0 c.1 (suc d.0) d.1
        (subst Soc a.2 hs) (subst Soc b.2 ht) (subst Power c.2 hp) (subst Power d.2 hq) (subst (λ (z : Float). lt (fin false a.0 a.1) z ≡ true) b.2 (subst (λ (z : Float). lt z t ≡ true) a.2 l)))

-- ---- the law
pub power_at_point : (ps : List Point) (i : ℕ) → Held ps → Rises lt ps → i < length ps → power_at ps (get_or ps i origin).soc ≡ (get_or ps i origin).power
unfolding power_at power_after
power_at_point ps i held r h = rw (reached-point ps i r h) (go (ltb (suc i) (length ps)) (ltb→lt (suc i) (length ps)))
  where
    go : (b : Bool) → (T b → suc i < length ps)
        → cond b (between (get_or ps i origin) (get_or ps (suc i) origin) (get_or ps i origin).soc) (get_or ps i origin).power ≡ (get_or ps i origin).power
    go true k =
        let p = held_at ps i held h in
        let q = held_at ps (suc i) held (k tt) in
        between_first (get_or ps i origin) (get_or ps (suc i) origin) p.0 q.0 p.1 q.1 (next ps i r (k tt))
    go false k = refl

-- of the curve that a block's points make
pub curve_power : (ps : List Point) (i : ℕ) → Held ps → Different ps → i < length (curve_of ps) → power_at (curve_of ps) (get_or (curve_of ps) i origin).soc ≡ (get_or (curve_of ps) i origin).power
curve_power ps i h d = power_at_point (curve_of ps) i (curve_held ps h) (rises_strictly ps (held_socs ps h) d)

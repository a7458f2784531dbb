-- A walk over the points of a curve by place: what the definitions say of the point q that stands at a place.
use Rattle.std.proofs.Common.{◌≡◌, ℕ, zero, suc, ◌+◌, ◌-◌, ◌<◌, ◌≤◌, Bool, true, false, cond, ◌||◌, T, List, [], ◌∷◌, length, get_or, drop, sym, refl, ap, ◌∙◌, subst, true≢false, zero-le, le_of_eq, zero-add, add-one, arith, drop_of_length-le, le-ltb, lt-ltb}
use Rattle.std.proofs.lemmas.List.{drop_more, get_or_default}
use lib.Ieee.{Float, lt, le}
use Rattle.curve.specs.F64.{ratio}
use Rattle.curve.specs.Code.Places.{passed}
use Rattle.curve.specs.Curve.{origin, between, reached, power_after, part, through, along, nothing, integrate_over}
use Rattle.curve.specs.declared.points.Point.{Point}
use Rattle.curve.specs.declared.charge_profile.Charge.{Charge}
use Rattle.curve.specs.declared.units.Kw.{Kw}
use Rattle.curve.specs.declared.units.Kwh.{Kwh}
use Rattle.curve.proofs.float.Compare.{le_lt, not_lt}

empty : (l : List Point) → length l ≡ 0 → l ≡ []
empty [] h = refl
empty (p ∷ l) h = absurd (omega arith)

-- there are no more of them than points
pub reached_bounded : (l : List Point) (s : Float) → reached s l ≤ length l
unfolding reached
reached_bounded [] s = zero-le
reached_bounded (r ∷ l) s = go (lt s r.soc) (reached_bounded l s)
  where
    go : (b : Bool) → reached s l ≤ length l → cond b 0 (suc (reached s l)) ≤ suc (length l)
    go true h = zero-le
    go false h = omega arith

-- the search for s goes on from any place that it gets to
pub reached_from_lem : (s : Float) (l : List Point) (i : ℕ) → i ≤ reached s l → i + reached s (drop i l) ≡ reached s l
unfolding reached
reached_from_lem s l zero h = zero-add _
reached_from_lem s [] (suc i) h = absurd (omega arith)
reached_from_lem s (p ∷ l) (suc i) h = go (lt s p.soc) h (reached_from_lem s l i)
  where
    go : (b : Bool) → suc i ≤ cond b 0 (suc (reached s l)) → (i ≤ reached s l → i + reached s (drop i l) ≡ reached s l)
        → suc i + reached s (drop i l) ≡ cond b 0 (suc (reached s l))
    go true h f = absurd (omega arith)
    go false h f = omega (arith, f (omega arith))

-- that for t gets to where that for s, which is not above t, ended
module _ (s t : Float) (h : le s t ≡ true) where
  pub no_fewer : (l : List Point) → reached s l ≤ reached t l
  unfolding reached
  no_fewer [] = zero-le
  no_fewer (r ∷ l) = go (lt s r.soc) (lt t r.soc) refl refl (no_fewer l)
    where
      go : (a b : Bool) → lt s r.soc ≡ a → lt t r.soc ≡ b → reached s l ≤ reached t l
          → cond a 0 (suc (reached s l)) ≤ cond b 0 (suc (reached t l))
      go true b p q e = zero-le
      go false true p q e = absurd (true≢false (sym (le_lt s t r.soc h q) ∙ p))
      go false false p q e = omega arith

-- the search gets past every point passed
pub passed-reached : (s : Float) (l : List Point) → passed s l ≤ reached s l
unfolding passed reached
passed-reached s [] = zero-le
passed-reached s (r ∷ l) = go (le r.soc s) (not_lt s r.soc) (passed-reached s l)
  where
    go : (b : Bool) → (T b → lt s r.soc ≡ false) → passed s l ≤ reached s l
        → cond b (suc (passed s l)) 0 ≤ cond (lt s r.soc) 0 (suc (reached s l))
    go true f h = rw (f tt) (omega arith)
    go false f h = zero-le

-- each of the points passed is at or below s
below_of_passed : (s : Float) (l : List Point) (i : ℕ) (d : Point) → i < passed s l → le (get_or l i d).soc s ≡ true
unfolding passed
below_of_passed s [] i d h = absurd (omega arith)
below_of_passed s (r ∷ l) i d h = go i (le r.soc s) refl h (λ j. below_of_passed s l j d)
  where
    go : (i : ℕ) (b : Bool) → le r.soc s ≡ b → i < cond b (suc (passed s l)) 0
        → ((j : ℕ) → j < passed s l → le (get_or l j d).soc s ≡ true) → le (get_or (r ∷ l) i d).soc s ≡ true
    go zero true t h f = t
    go (suc i) true t h f = f i (omega arith)
    go i false t h f = absurd (omega arith)

module _ (l : List Point) (s : Float) (i : ℕ) where
  pub power_of_none : length l ≡ 0 → i ≤ length l → power_after l s i ≡ record { 0 = ratio 0 1 }
  unfolding power_after
  power_of_none h b = let none : i ≡ 0 = omega arith in rw (none, empty l h)

  module _ (d : Point) where
    pub power_before : (length l ≡ 0 → ⊥) → i ≡ 0 → power_after l s i ≡ (get_or l 0 d).power
    unfolding power_after
    power_before h e = rw e (ap (λ (p : Point). p.power) (get_or_default l 0 origin d (omega arith)))

    pub power_past : (length l ≡ 0 → ⊥) → i ≡ length l → power_after l s i ≡ (get_or l (length l - 1) d).power
    unfolding power_after
    power_past h e =
        let m = length l - 1 in
        let last : i ≡ suc m = omega arith in
        let many : length l ≡ suc m = omega arith in
        rw (last, le-ltb (suc m) (length l) (le_of_eq many)) (ap (λ (p : Point). p.power) (get_or_default l m origin d (omega arith)))

    pub power_between : (i ≡ 0 → ⊥) → i < length l → power_after l s i ≡ between (get_or l (i - 1) d) (get_or l i d) s
    unfolding power_after
    power_between z h =
        let next : i ≡ suc (i - 1) = omega arith in
        subst (λ (j : ℕ). power_after l s j ≡ between (get_or l (i - 1) d) (get_or l j d) s) (sym next) (inside (i - 1) (omega arith))
      where
        both : {p p' q q' : Point} → p ≡ p' → q ≡ q' → between p q s ≡ between p' q' s
        both a b = rw (a, b)

        inside : (m : ℕ) → suc m < length l → power_after l s (suc m) ≡ between (get_or l m d) (get_or l (suc m) d) s
        inside m h = rw (lt-ltb (suc m) (length l) h) (both (get_or_default l m origin d (omega arith)) (get_or_default l (suc m) origin d h))

-- the same of `integrate_over` and `along`
module _ (l : List Point) (battery : Kwh) (target : Float) (cap : Kw) where
  pub no_segment : (start : Float) → length l ≡ 0 → integrate_over l battery start target cap ≡ nothing
  unfolding integrate_over
  no_segment start h = rw (empty l h)

  pub next_segment : (ps : List Point) (p : Point) (c : Charge) (i : ℕ) (d : Point) → i < length ps
      → along l battery target cap p (drop i ps) c ≡ along l battery target cap (get_or ps i d) (drop (i + 1) ps) (through l battery target cap p (get_or ps i d) c)
  unfolding along
  next_segment ps p c i d h = rw (drop_more ps i d)

  -- a segment whose end is passed
  passed_by : (p q : Point) (c : Charge) → le q.soc c.soc ≡ true → through l battery target cap p q c ≡ c
  unfolding through
  passed_by p q c t = go (le target c.soc)
    where
      go : (b : Bool) → cond (b || le q.soc c.soc) c (part l battery target cap p q c) ≡ c
      go true = refl
      go false = rw t

  module _ (d : Point) where
    -- charging goes on from the last of the points passed
    pass_segments : (c : Charge) (i : ℕ) → i ≤ passed c.soc l - 1
        → along l battery target cap (get_or l 0 d) (drop 1 l) c ≡ along l battery target cap (get_or l i d) (drop (i + 1) l) c
    pass_segments c zero h = refl
    pass_segments c (suc i) h =
        let inside : suc i < passed c.soc l = omega arith in
        let below = below_of_passed c.soc l (suc i) d inside in
        pass_segments c i (omega arith)
        ∙ rw (add-one, next_segment l (get_or l i d) c (suc i) d (omega (arith, passed-reached c.soc l, reached_bounded l c.soc)), passed_by (get_or l i d) (get_or l (suc i) d) c below)

    -- at the start, from the last of the points passed, or the first
    pub first_segment : (start : Float) (i : ℕ) → (length l ≡ 0 → ⊥) → i ≤ passed start l - 1
        → integrate_over l battery start target cap ≡ (along l battery target cap (get_or l i d) (drop (i + 1) l) (record { soc = start; output = nothing })).output
    unfolding integrate_over
    first_segment start i h most =
        let c : Charge = record { soc = start; output = nothing } in
        let whole : integrate_over l battery start target cap ≡ (along l battery target cap (get_or l 0 d) (drop 1 l) c).output = rw (drop_more l 0 d (omega arith)) in
        whole ∙ ap (λ (d : Charge). d.output) (pass_segments c i most)

  pub last_segment : (ps : List Point) (p : Point) (c : Charge) (i : ℕ) → length ps ≤ i → along l battery target cap p (drop i ps) c ≡ c
  unfolding along
  last_segment ps p c i h = rw drop_of_length-le

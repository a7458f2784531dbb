-- One walk along a curve under two caps: under the lower one the duration is never below, if it is finite, and the peak never above.
use Rattle.std.proofs.Common.{◌≡◌, ◌^◌, Bool, true, false, cond, ◌||◌, T, ◌⊎◌, List, [], ◌∷◌, sym, refl, subst, inl, inr, pow_pos}
use lib.Ieee.{Float, binary64, le}
use lib.Ieee.Positive.{positive}
use Rattle.curve.specs.F64.{◌⊕◌, ◌⊖◌, ◌⊗◌, ratio, least, greatest, clear}
use Rattle.curve.specs.Limits.{Soc, Held}
use Rattle.curve.specs.Curve.{power_at, average, part, along}
use Rattle.curve.specs.declared.points.Point.{Point}
use Rattle.curve.specs.declared.charge_profile.Charge.{Charge}
use Rattle.curve.specs.declared.charge_profile.ChargingOutput.{ChargingOutput}
use Rattle.curve.specs.declared.units.Kw.{Kw}
use Rattle.curve.specs.declared.units.Kwh.{Kwh}
use Rattle.curve.proofs.float.Compare.{not_lt}
use Rattle.curve.proofs.float.Clear.{add_clear, mul_clear, mul_clear_right, least-clear, greatest-clear, least_one, own}
use Rattle.curve.proofs.float.Monotone.{add_mono, mul_mono_right, least_mono, greatest_mono, le_self, not_le, or_false}
use Rattle.curve.proofs.float.Grid.{le_units}
use Rattle.curve.proofs.float.InUnits.{difference, clear_value}
use Rattle.curve.proofs.float.Quotients.{Slower, slower_add}
use Rattle.curve.proofs.charge_profile.PowerClear.{soc_units, power_clear}

-- ---- the average of two capped powers
pub half_positive : T (positive (ratio 1 2))
unfolding ratio
half_positive = tt

capped-sum : (x y cap : Kw) → T (clear x.0) → T (clear y.0) → T (clear cap.0) → T (clear (least x.0 cap.0 ⊕ least y.0 cap.0))
capped-sum x y cap p q c = add_clear binary64 _ _ (least-clear x.0 cap.0 p c) (least-clear y.0 cap.0 q c)

average-clear : (x y cap : Kw) → T (clear x.0) → T (clear y.0) → T (clear cap.0) → T (clear (average x y cap).0)
average-clear x y cap p q c = mul_clear binary64 (ratio 1 2) _ half_positive (capped-sum x y cap p q c)

-- a lower cap gives no larger average
average_lower : (x y a b : Kw) → T (clear x.0) → T (clear y.0) → T (clear a.0) → T (clear b.0) → T (le a.0 b.0) → T (le (average x y a).0 (average x y b).0)
average_lower x y a b p q ca cb h =
    mul_mono_right binary64 (ratio 1 2) _ _ half_positive (capped-sum x y a p q ca) (capped-sum x y b p q cb)
    (add_mono binary64 _ _ _ _
    (least-clear x.0 a.0 p ca) (least-clear x.0 b.0 p cb) (least-clear y.0 a.0 q ca) (least-clear y.0 b.0 q cb)
    (least_mono x.0 x.0 a.0 b.0 p p ca cb (le_self x.0 p) h) (least_mono y.0 y.0 a.0 b.0 q q ca cb (le_self y.0 q) h))

-- ---- the SOCs of a part
or_true : (a b : Bool) → (a || b) ≡ true → T a ⊎ T b
or_true true b t = inl tt
or_true false b t = inr (subst T (sym t) tt)

greatest-first : (x y : Float) → T (clear x) → T (le y x) → greatest x y ≡ x
greatest-first x y p h = rw (own x p, not_lt x y h)

sub_clear : (x y : Float) → Soc x → Soc y → T (le y x) → T (clear (x ⊖ y))
sub_clear x y a b h =
    let X = soc_units x a in
    let Y = soc_units y b in
    let d = difference binary64 x y X.0 Y.0 X.1 Y.1 (le_units y x Y.0 X.0 (2 ^ 1074) (pow_pos 1074) Y.1.value X.1.value h) in
    clear_value (x ⊖ y) _ (2 ^ 1074) d.0

hour_positive : T (positive (ratio 3600 1))
unfolding ratio
hour_positive = tt

-- ---- two outputs, the first under the lower cap
pub record Rated (o o' : ChargingOutput) : Type 0 where
  pub slower : Slower o.duration.0 o'.duration.0
  pub low_clear : T (clear o.peak.0)
  pub high_clear : T (clear o'.peak.0)
  pub lower : T (le o.peak.0 o'.peak.0)

module _ (curve : List Point) (held : Held curve) (battery : Kwh) (b0 : T (positive battery.0)) (target : Float) (t0 : Soc target) (a b : Kw) (ca : T (clear a.0)) (cb : T (clear b.0)) (ab : T (le a.0 b.0)) where
  abbrev at : Float → ChargingOutput → Charge
  at s o = record { soc = s; output = o }

  part-rated : (p q : Point) (s : Float) (o o' : ChargingOutput) → Soc p.soc → Soc q.soc → Soc s → T (le s target) → T (le s q.soc) → T (le p.soc s) → Rated o o'
      → Rated (part curve battery target a p q (at s o)).output (part curve battery target b p q (at s o')).output
  part-rated p q s o o' sp sq ss st sl sr r =
      let g = greatest s p.soc in
      let e = least target q.soc in
      let same : g ≡ s = greatest-first s p.soc ss.clear sr in
      let sg : Soc g = subst Soc (sym same) ss in
      let se : Soc e = least_one Soc target q.soc t0 sq in
      let rise : T (le g e) = subst (λ (x : Float). T (le x e)) (sym same) (least_one (λ (y : Float). T (le s y)) target q.soc st sl) in
      let x = power_at curve g in
      let y = power_at curve e in
      let cx : T (clear x.0) = power_clear curve g held sg in
      let cy : T (clear y.0) = power_clear curve e held se in
      let work = ratio 3600 1 ⊗ ((e ⊖ g) ⊗ battery.0) in
      let cw : T (clear work) = mul_clear binary64 (ratio 3600 1) ((e ⊖ g) ⊗ battery.0) hour_positive (mul_clear_right binary64 (e ⊖ g) battery.0 (sub_clear e g se sg rise) b0) in
      let ma = average-clear x y a cx cy ca in
      let mb = average-clear x y b cx cy cb in
      let mm = average_lower x y a b cx cy ca cb ab in
      record {
        slower = slower_add binary64 o.duration.0 o'.duration.0 work (average x y a).0 (average x y b).0 r.slower cw ma mb mm;
        low_clear = greatest-clear o.peak.0 (average x y a).0 r.low_clear ma;
        high_clear = greatest-clear o'.peak.0 (average x y b).0 r.high_clear mb;
        lower = greatest_mono o.peak.0 o'.peak.0 (average x y a).0 (average x y b).0 r.low_clear r.high_clear ma mb r.lower mm;
      }

  -- the SOC reached has passed the target, or p
  abbrev Reached : Point → Float → Type 0
  Reached p s = T (le target s) ⊎ T (le p.soc s)

  arrived : (q : Point) → Soc q.soc → Reached q (least target q.soc)
  arrived q sq = least_one (Reached q) target q.soc (inl (le_self target t0.clear)) (inr (le_self q.soc sq.clear))

  pub along-rated : (ps : List Point) (p : Point) (s : Float) (o o' : ChargingOutput) → Soc p.soc → Held ps → Soc s → Reached p s → Rated o o'
      → Rated (along curve battery target a p ps (at s o)).output (along curve battery target b p ps (at s o')).output
  unfolding along Held
  along-rated [] p s o o' sp h ss r x = x
  along-rated (q ∷ qs) p s o o' sp h ss r x = go (le target s || le q.soc s) refl (along-rated qs q)
    where
      go : (c : Bool) → (le target s || le q.soc s) ≡ c
          → ((s : Float) (o o' : ChargingOutput) → Soc q.soc → Held qs → Soc s → Reached q s → Rated o o' → Rated (along curve battery target a q qs (at s o)).output (along curve battery target b q qs (at s o')).output)
          → Rated (along curve battery target a q qs (cond c (at s o) (part curve battery target a p q (at s o)))).output (along curve battery target b q qs (cond c (at s o') (part curve battery target b p q (at s o')))).output
      go true e ih = ih s o o' h.0 h.2 ss (or_true (le target s) (le q.soc s) e) x
      go false e ih =
          let n = or_false (le target s) (le q.soc s) e in
          let st : T (le s target) = not_le target s t0.clear ss.clear n.0 in
          let sl : T (le s q.soc) = not_le q.soc s h.0.clear ss.clear n.1 in
          let sr : T (le p.soc s) = elim r [ inl l ↦ absurd (subst T n.0 l) | inr l ↦ l ] in
          ih (least target q.soc) (part curve battery target a p q (at s o)).output (part curve battery target b p q (at s o')).output h.0 h.2
          (least_one Soc target q.soc t0 h.0) (arrived q h.0) (part-rated p q s o o' sp h.0 ss st sl sr x)

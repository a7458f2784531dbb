-- Other averages than the rules'. Capped after the average, or with the larger for the smaller, a lower cap still gives no larger one, so the hot-day law would hold; split where the cap cuts, it may, and the law fails.
use Rattle.std.proofs.Common.{◌≡◌, ◌+◌, ◌*◌, ◌^◌, true, T, refl}
use lib.Ieee.{Float, binary64, add, sub, mul, div, lt, le, ne}
use Rattle.curve.specs.F64.{◌⊕◌, ◌⊖◌, ◌⊗◌, ◌⊘◌, ratio, least, greatest, clear}
use Rattle.curve.proofs.float.Clear.{add_clear, mul_clear, greatest-clear}
use Rattle.curve.proofs.float.Monotone.{add_mono, mul_mono_right, least_mono, greatest_mono, le_self}
use Rattle.curve.proofs.charge_profile.LowerCap.{half_positive}

-- powers p and q at the ends, and caps a ≤ b
module _ (p q a b : Float) (cp : T (clear p)) (cq : T (clear q)) (ca : T (clear a)) (cb : T (clear b)) (h : T (le a b)) where
  capped_after : T (le (least (ratio 1 2 ⊗ (p ⊕ q)) a) (least (ratio 1 2 ⊗ (p ⊕ q)) b))
  capped_after =
      let half = mul_clear binary64 (ratio 1 2) (p ⊕ q) half_positive (add_clear binary64 p q cp cq) in
      least_mono (ratio 1 2 ⊗ (p ⊕ q)) (ratio 1 2 ⊗ (p ⊕ q)) a b half half ca cb (le_self (ratio 1 2 ⊗ (p ⊕ q)) half) h

  abbrev sum : Float → Float
  sum cap = greatest p cap ⊕ greatest q cap

  sum-clear : (cap : Float) → T (clear cap) → T (clear (sum cap))
  sum-clear cap c = add_clear binary64 (greatest p cap) (greatest q cap) (greatest-clear p cap cp c) (greatest-clear q cap cq c)

  larger_for_smaller : T (le (ratio 1 2 ⊗ sum a) (ratio 1 2 ⊗ sum b))
  larger_for_smaller =
      mul_mono_right binary64 (ratio 1 2) (sum a) (sum b) half_positive (sum-clear a ca) (sum-clear b cb)
      (add_mono binary64 (greatest p a) (greatest p b) (greatest q a) (greatest q b)
      (greatest-clear p a cp ca) (greatest-clear p b cp cb) (greatest-clear q a cq ca) (greatest-clear q b cq cb)
      (greatest_mono p p a b cp cp ca cb (le_self p cp) h) (greatest_mono q q a b cq cq ca cb (le_self q cq) h))

-- the part of a segment above the cap at the cap, the rest at its own average
abbrev split : Float → Float → Float → Float
split p q cap = ratio 1 1 ⊘ ((p ⊖ cap) ⊘ (p ⊖ q) ⊘ least p cap ⊕ (cap ⊖ q) ⊘ (p ⊖ q) ⊘ (ratio 1 2 ⊗ (cap ⊕ least q cap)))

-- M7's segment from 100 to 50 kW: the next float above 85 kW has the smaller average
split_falls : lt (split (ratio 100 1) (ratio 50 1) (ratio (85 * 2 ^ 46 + 1) (2 ^ 46))) (split (ratio 100 1) (ratio 50 1) (ratio 85 1)) ≡ true
unfolding ratio lt ne add sub mul div
split_falls = refl

-- A curve that rises by SOC: once a point is above a SOC, all after it are.
use Rattle.std.proofs.Common.{◌≡◌, ℕ, zero, suc, ◌<◌, Bool, true, false, cond, List, [], ◌∷◌, length, get_or, sym, refl, ◌∙◌, true≢false, arith}
use lib.Ieee.{Float, lt, le}
use lib.Ieee.Bits.{is_true}
use Rattle.curve.specs.Curve.{reached}
use Rattle.curve.specs.Code.Rising.{Above, Rises}
use Rattle.curve.specs.declared.points.Point.{Point}
use Rattle.curve.proofs.float.Compare.{lt_le}

-- what follows the first point rises too
pub behind : (r : Float → Float → Bool) (p : Point) (ps : List Point) → Above r p.soc ps → Rises r ps
unfolding Above Rises
behind r p [] a = tt
behind r p (q ∷ qs) a = a.1

above_on : (s u : Float) (ps : List Point) (i : ℕ) (d : Point) → lt s u ≡ true → Above le u ps → i < length ps → lt s (get_or ps i d).soc ≡ true
unfolding Above
above_on s u [] i d t a h = absurd (omega arith)
above_on s u (p ∷ ps) zero d t a h = lt_le s u p.soc t (is_true _ a.0)
above_on s u (p ∷ ps) (suc i) d t a h = above_on s p.soc ps i d (lt_le s u p.soc t (is_true _ a.0)) a.1 (omega arith)

-- the search gets past a point that is not above s
pub reached_past : (s : Float) (ps : List Point) (i : ℕ) (d : Point) → Rises le ps → i < length ps → lt s (get_or ps i d).soc ≡ false → i < reached s ps
unfolding reached Rises
reached_past s [] i d a h t = absurd (omega arith)
reached_past s (p ∷ ps) zero d a h t = rw t (omega arith)
reached_past s (p ∷ ps) (suc i) d a h t = go (lt s p.soc) refl (reached_past s ps i d (behind le p ps a) (omega arith) t)
  where
    go : (b : Bool) → lt s p.soc ≡ b → i < reached s ps → suc i < cond b 0 (suc (reached s ps))
    go true u k = absurd (true≢false (sym (above_on s p.soc ps i d u a (omega arith)) ∙ t))
    go false u k = omega arith

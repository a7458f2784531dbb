-- Laws of `integrate_over`: a start at or above the target gives three zeros, and the cap has no part in the energy.
use Rattle.std.proofs.Common.{◌≡◌, Bool, true, false, cond, ◌||◌, List, [], ◌∷◌, sym, refl, ap, subst}
use lib.Ieee.{Float, le}
use Rattle.curve.specs.Curve.{part, through, along, nothing, integrate_over}
use Rattle.curve.specs.declared.points.Point.{Point}
use Rattle.curve.specs.declared.charge_profile.Charge.{Charge}
use Rattle.curve.specs.declared.units.Kw.{Kw}
use Rattle.curve.specs.declared.units.Kwh.{Kwh}

-- ---- a start at or above the target
module _ (curve : List Point) (battery : Kwh) (target : Float) (cap : Kw) (c : Charge) (t : le target c.soc ≡ true) where
  pub stays : (p : Point) (ps : List Point) → along curve battery target cap p ps c ≡ c
  unfolding along through
  stays p [] = refl
  stays p (q ∷ qs) = rw t (stays q qs)

pub at_target : (ps : List Point) (battery : Kwh) (start target : Float) (cap : Kw) → le target start ≡ true → integrate_over ps battery start target cap ≡ nothing
unfolding integrate_over
at_target [] battery start target cap t = refl
at_target (p ∷ ps) battery start target cap t = ap (λ (c : Charge). c.output) (stays (p ∷ ps) battery target cap _ t p ps)

-- ---- two caps: every step reaches the same SOC with the same energy
abbrev Alike : Charge → Charge → Type 0
Alike c d = (c.soc ≡ d.soc) × (c.output.energy ≡ d.output.energy)

module _ (curve : List Point) (battery : Kwh) (target : Float) (a b : Kw) where
  part_alike : (p q : Point) (c d : Charge) → Alike c d → Alike (part curve battery target a p q c) (part curve battery target b p q d)
  part_alike p q c d e = (refl, rw (e.0, e.1))

  through_alike : (p q : Point) (c d : Charge) → Alike c d → Alike (through curve battery target a p q c) (through curve battery target b p q d)
  unfolding through
  through_alike p q c d e =
      subst (λ (s : Float). Alike (cond (le target s || le q.soc s) c (part curve battery target a p q c)) (through curve battery target b p q d))
      (sym e.0) (go (le target d.soc || le q.soc d.soc))
    where
      go : (x : Bool) → Alike (cond x c (part curve battery target a p q c)) (cond x d (part curve battery target b p q d))
      go true = e
      go false = part_alike p q c d e

  along_alike : (p : Point) (ps : List Point) (c d : Charge) → Alike c d → Alike (along curve battery target a p ps c) (along curve battery target b p ps d)
  unfolding along
  along_alike p [] c d e = e
  along_alike p (q ∷ qs) c d e = along_alike q qs _ _ (through_alike p q c d e)

-- the energy has the same bits, whatever the caps
pub same_energy : (ps : List Point) (battery : Kwh) (start target : Float) (a b : Kw)
    → (integrate_over ps battery start target a).energy ≡ (integrate_over ps battery start target b).energy
unfolding integrate_over
same_energy [] battery start target a b = refl
same_energy (p ∷ ps) battery start target a b = (along_alike (p ∷ ps) battery target a b p ps _ _ (refl, refl)).1

-- Refinement: points that rise by SOC. Each SOC stands so to the next, as `le` or `lt`.
use Rattle.std.specs.Prelude.{Bool, T, List, [], ◌∷◌, Float}
use Rattle.std.specs.Coded.{×_prop, Unit-prop}
use lib.Dec.{T_prop}
use Rattle.curve.specs.declared.points.Point.{Point}

module _ (r : Float → Float → Bool) where
  -- from SOC s on
  unfoldable pub Above : Float → List Point → Type 0
  Above s [] = Unit {0}
  Above s (p ∷ ps) = T (r s p.soc) × Above p.soc ps

  unfoldable pub Rises : List Point → Type 0
  unfolding Above
  Rises [] = Unit {0}
  Rises (p ∷ ps) = Above p.soc ps

  -- there is one proof of it, so that a struct may carry it
  above_prop : (s : Float) (ps : List Point) → IsProp (Above s ps)
  unfolding Above
  above_prop s [] = Unit-prop
  above_prop s (p ∷ ps) = ×_prop (T_prop (r s p.soc)) (above_prop p.soc ps)

  pub rises-prop : (ps : List Point) → IsProp (Rises ps)
  unfolding Rises
  rises-prop [] = Unit-prop
  rises-prop (p ∷ ps) = above_prop p.soc ps

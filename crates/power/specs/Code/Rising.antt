-- Refinement: profiles whose curves rise by SOC, so that a search may go by halves.
use Rattle.std.specs.Prelude.{List, ℕ}
use Rattle.std.specs.Float.Ieee.{le}
use Rattle.std.specs.Coded.{Π_prop}
use Rattle.curve.specs.Code.Rising.{Rises, rises-prop}
use Rattle.curve.specs.declared.points.Point.{Point}
use Rattle.charger.specs.Code.Profiles.{curve_at}

-- every profile's curve rises by SOC
abbrev pub Rising : List Point → List ℕ → Type 0
Rising points lens = (k : ℕ) → Rises le (curve_at points lens k)

pub rising_prop : (points : List Point) (lens : List ℕ) → IsProp (Rising points lens)
rising_prop points lens = Π_prop (λ k. rises-prop le (curve_at points lens k))

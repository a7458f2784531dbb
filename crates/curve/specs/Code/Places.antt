-- Refinement: how far a charge has come on a curve, and what the two ends are put in by.
use Rattle.curve.specs.Curve.{reached, power_at}
use Rattle.std.specs.Prelude.{ℕ, suc, ◌+◌, cond, List, [], ◌∷◌, ◌++◌, take, drop, Float}
use Rattle.std.specs.Float.Ieee.{le}
use Rattle.curve.specs.declared.points.Point.{Point}
use Rattle.curve.specs.declared.charge_profile.Charge.{Charge}
use Rattle.curve.specs.declared.charge_profile.Place.{Place}
use Rattle.curve.specs.declared.charge_profile.Walk.{Walk}

-- how many points, from the first, have a SOC at or below s, by the test of `through` for a segment's end
unfoldable pub passed : Float → List Point → ℕ
passed s [] = 0
passed s (p ∷ ps) = cond (le p.soc s) (suc (passed s ps)) 0

-- the place of SOC s on a curve
abbrev pub place : List Point → Float → Place
place ps s = record { reached = reached s ps; power = power_at ps s }

-- a charge with the place of the SOC reached
abbrev pub walk : List Point → Charge → Walk
walk ps c = record { charge = c; place = place ps c.soc }

-- x put in front of the first n points, which move up by one
abbrev pub put_first : List Point → ℕ → Point → List Point
put_first l n x = x ∷ (take n l ++ drop (n + 1) l)

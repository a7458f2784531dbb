-- Rules. Request 13, hot-day rating: of two caps for the same profile, start and target, what the lower one takes. The rounded numbers are meant.
use Rattle.std.specs.Prelude.{◌≡◌, T, List, Float}
use Rattle.std.specs.Float.Ieee.{lt, le}
use Rattle.curve.specs.F64.{ratio, within}
use Rattle.curve.specs.Curve.{integrate_over, curve_of}
use Rattle.curve.specs.declared.points.Point.{Point}
use Rattle.curve.specs.declared.units.Kw.{Kw}
use Rattle.curve.specs.declared.units.Kwh.{Kwh}
use Rattle.curve.specs.declared.charge_profile.ChargingOutput.{ChargingOutput}

-- the lower cap's duration is not below the other's, its peak not above, and the energy has the same bits
pub record Derated (low high : ChargingOutput) : Type 0 where
  pub duration : T (le high.duration.0 low.duration.0)
  pub peak : T (le low.peak.0 high.peak.0)
  pub energy : low.energy ≡ high.energy

module _ (profile : List Point) (battery : Kwh) (start target : Float) where
  -- what charging takes under a cap
  abbrev under : Kw → ChargingOutput
  under cap = integrate_over (curve_of profile) battery start target cap

  -- so it is for any two positive caps whose durations both pass check 12
  abbrev pub HotDay : Type 0
  HotDay =
      (low high : Kw) → T (lt (ratio 0 1) low.0) → T (le low.0 high.0)
      → T (within (under low).duration.0) → T (within (under high).duration.0) → Derated (under low) (under high)

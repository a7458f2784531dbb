-- Rules. Request 13, hot-day rating, in the words of a plan: chargers of different rated power, and what a session by events says.
use Rattle.std.specs.Prelude.{◌≡◌, true, T}
use Rattle.std.specs.Float.Ieee.{le}
use Rattle.curve.specs.HotDay.{Derated}
use Rattle.engine.specs.declared.session.Session.{Session}
use Rattle.engine.specs.declared.session.Outcome.TheVariants.{Charged}
use Rattle.engine.specs.Plan.{VehiclePlace, ChargerPlace, Plan, vehicle, fits, rated, output}

-- two vehicles of the same profile, start and target; one and the same vehicle is such a pair
pub record Alike (p : Plan) (v w : VehiclePlace) : Type 0 where
  pub profile : (vehicle p v).profile ≡ (vehicle p w).profile
  pub start : (vehicle p v).start ≡ (vehicle p w).start
  pub target : (vehicle p v).target ≡ (vehicle p w).target

-- at a charger of lower rated power charging takes no less time, peaks no higher, and the energy has the same bits
abbrev pub HotDay : Plan → Type 0
HotDay p =
    (v w : VehiclePlace) (a b : ChargerPlace) → Alike p v w → fits p v a ≡ true → fits p w b ≡ true → T (le (rated p v a).0 (rated p w b).0)
    → Derated (output p v a) (output p w b)

-- the session's vehicle fits its charger, and it says what charging takes there
pub record AtRating (p : Plan) (x : Session) : Type 0 where
  pub pair : fits p x.vehicle x.charger ≡ true
  pub duration : x.duration ≡ (output p x.vehicle x.charger).duration
  pub peak : x.peak ≡ (output p x.vehicle x.charger).peak
  pub energy : x.energy ≡ (output p x.vehicle x.charger).energy

-- so it is with every charged session of a run by events
abbrev pub ChargedAtRating : Plan → Session → Type 0
ChargedAtRating p x = x.outcome ≡ Charged → AtRating p x

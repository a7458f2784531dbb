-- Rules. Request 10, even shares of the limit: what a round gives the cars that charge in it.
use Rattle.std.specs.Prelude.{◌≡◌, false, List, map, ℕ, get_or}
use Rattle.curve.specs.declared.points.Point.{Point}
use Rattle.shares.specs.Fair.{Fair}
use Rattle.power.specs.declared.charger_state.ChargerState.{ChargerState}
use Rattle.power.specs.declared.power.Limit.{Limit}
use Rattle.power.specs.declared.power.Limit.TheVariants.{Shared}
use Rattle.power.specs.ChargerState.{is_free, empty}
use Rattle.power.specs.Power.{ProfilePlace, active, request, watts_asked, cap_of_share}

-- what the cars ask for in a round, in whole watts by charger place; who does not charge asks for nothing
abbrev pub asks : (ProfilePlace → List Point) → List ChargerState → List ℕ
asks curve ss = map watts_asked (map (active (request curve)) ss)

-- The round gives fair shares in whole watts: they sum to the smaller of limit and requests, and two cars still short differ by at
-- most 1 W (`Fair` says all that fixes them). A car's cap is its share, in kilowatts.
pub record EvenShares (limit : ℕ) (curve : ProfilePlace → List Point) (before after : List ChargerState) : Type 0 where
  pub given : List ℕ
  pub fair : Fair (asks curve before) limit given
  pub caps : (i : ℕ) → is_free (get_or before i empty).status ≡ false → (get_or after i empty).cap ≡ cap_of_share (get_or given i 0)

-- where the limit is shared evenly
abbrev pub SharedEvenly : Limit → (ProfilePlace → List Point) → List ChargerState → List ChargerState → Type 0
SharedEvenly limit curve before after = (watts : ℕ) → limit ≡ Shared watts → EvenShares watts curve before after

-- Rules. The site's power in one round.
use Rattle.std.specs.Prelude.{cond, List, [], ◌∷◌, map, ℕ, Float}
use Rattle.std.specs.Float.Ieee.{lt}
use Rattle.curve.specs.F64.{◌⊕◌, ◌⊗◌, ◌⊘◌, ratio}
use Rattle.curve.specs.Curve.{power_at}
use Rattle.curve.specs.declared.points.Point.{Point}
use Rattle.curve.specs.declared.units.Kw.{Kw}
use Rattle.shares.specs.Watts.{watts_of, kilowatts_of}
use Rattle.shares.specs.Shares.{shares}
use Rattle.power.specs.declared.charger_state.Status.{Status}
use Rattle.power.specs.declared.charger_state.ChargerState.{ChargerState}
use Rattle.power.specs.declared.power.Limit.{Limit}
use Rattle.power.specs.declared.power.Limit.TheVariants.{Unlimited, AtMost, Shared}
use Rattle.power.specs.ChargerState.{is_free, is_charging, draw, with_request, with_cap, progress}

-- a profile goes by its place in the plan, from 0
abbrev pub ProfilePlace : Type 0
ProfilePlace = ℕ

-- a change that leaves free chargers alone
abbrev pub active : (ChargerState → ChargerState) → ChargerState → ChargerState
active change s = cond (is_free s.status) s (change s)

-- what the car asks for: its profile's power at its SOC
unfoldable pub request : (ProfilePlace → List Point) → ChargerState → ChargerState
unfolding power_at
request curve s = with_request (power_at (curve s.profile) s.soc) s

-- which cars count in the sum: those that charge; parked cars draw nothing (request 6)
abbrev pub added_by : Float → Status → Float → Float
added_by sum status power = cond (is_charging status) (sum ⊕ power) sum

-- the sum of what they draw, in charger order, added to `sum`
unfoldable pub added : Float → ChargerState → Float
added sum s = added_by sum s.status (draw s)

abbrev pub total : Float → List ChargerState → Float
total sum [] = sum
total sum (s ∷ ss) = total (added sum s) ss

-- the limit's part of the sum, if the sum is strictly above the limit; one that is shared evenly scales nothing, and is not asked
unfoldable pub scaling : Limit → Float → Float
unfolding ratio
scaling Unlimited sum = ratio 1 1
scaling (AtMost limit) sum = cond (lt limit.0 sum) (limit.0 ⊘ sum) (ratio 1 1)
scaling (Shared watts) sum = ratio 1 1

-- the cap that a factor leaves a car: what it draws, scaled, if the factor is below 1, else the rated power
unfoldable pub cap_of : Float → ChargerState → Kw
unfolding ratio
cap_of factor s = cond (lt factor (ratio 1 1)) (record { 0 = draw s ⊗ factor }) s.rated

-- every car's cap by the one factor
unfoldable pub scaled_caps : Limit → List ChargerState → List Kw
unfolding scaling added cap_of
scaled_caps limit ss = map (cap_of (scaling limit (total (ratio 0 1) ss))) ss

-- even shares (request 10): what a car asks for, capped by its charger, in whole watts, if it charges; who does not charge takes no part
unfoldable pub watts_asked : ChargerState → ℕ
unfolding watts_of
watts_asked s = cond (is_charging s.status) (watts_of (draw s)) 0

-- a share goes back to kilowatts
unfoldable pub cap_of_share : ℕ → Kw
unfolding kilowatts_of
cap_of_share w = record { 0 = kilowatts_of w }

-- every car's cap by its share of the limit, which is in whole watts
unfoldable pub even_caps : ℕ → List ChargerState → List Kw
unfolding watts_asked cap_of_share shares
even_caps limit ss = map cap_of_share (shares (map watts_asked ss) limit)

-- the power rule: a cap for each charger, from the limit and the states with their requests
unfoldable pub caps : Limit → List ChargerState → List Kw
unfolding scaled_caps even_caps
caps Unlimited ss = scaled_caps Unlimited ss
caps (AtMost limit) ss = scaled_caps (AtMost limit) ss
caps (Shared limit) ss = even_caps limit ss

-- each car with its cap
abbrev pub with_caps : List Kw → List ChargerState → List ChargerState
with_caps [] ss = ss
with_caps (c ∷ cs) [] = []
with_caps (c ∷ cs) (s ∷ ss) = active (with_cap c) s ∷ with_caps cs ss

unfoldable pub allocate : Limit → (ProfilePlace → List Point) → List ChargerState → List ChargerState
unfolding request caps
allocate limit curve ss =
    let asked = map (active (request curve)) ss in
    with_caps (caps limit asked) asked

-- a round of power and progress
abbrev pub charge : Limit → (ProfilePlace → List Point) → List ChargerState → List ChargerState
charge limit curve ss = map progress (allocate limit curve ss)

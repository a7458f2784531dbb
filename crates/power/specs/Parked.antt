-- Rules. Request 6, parked cars draw nothing: what a round is to the cars that charge in it.
use Rattle.std.specs.Prelude.{◌≡◌, cond, List, [], ◌∷◌, Float}
use Rattle.curve.specs.F64.{◌⊕◌, ratio}
use Rattle.curve.specs.declared.points.Point.{Point}
use Rattle.power.specs.declared.charger_state.ChargerState.{ChargerState}
use Rattle.power.specs.declared.power.Limit.{Limit}
use Rattle.power.specs.ChargerState.{is_charging}
use Rattle.power.specs.Power.{ProfilePlace, charge}

-- the cars that charge, in charger order
abbrev pub charging : List ChargerState → List ChargerState
charging [] = []
charging (s ∷ ss) = cond (is_charging s.status) (s ∷ charging ss) (charging ss)

-- the same cars as a round leaves them: of the states after it, those whose cars charged before it
abbrev pub charged : List ChargerState → List ChargerState → List ChargerState
charged [] ts = []
charged (s ∷ ss) [] = []
charged (s ∷ ss) (t ∷ ts) = cond (is_charging s.status) (t ∷ charged ss ts) (charged ss ts)

-- the sum of their caps, in charger order as the rule sums, added to `sum`
abbrev pub cap_sum : Float → List ChargerState → Float
cap_sum sum [] = sum
cap_sum sum (s ∷ ss) = cap_sum (sum ⊕ s.cap.0) ss

-- A round leaves the cars that charge as it would with nobody else at the site, however many are parked; so the sum of
-- their caps is the same too.
pub record ParkedDrawNothing (limit : Limit) (curve : ProfilePlace → List Point) (before after : List ChargerState) : Type 0 where
  pub cars : charged before after ≡ charge limit curve (charging before)
  pub sum : cap_sum (ratio 0 1) (charged before after) ≡ cap_sum (ratio 0 1) (charge limit curve (charging before))

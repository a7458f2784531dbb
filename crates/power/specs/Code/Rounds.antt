-- Refinement: rounds of power and progress up to the first in which a charger is finished.
use Rattle.std.specs.Prelude.{Bool, true, false, cond, List, [], ◌∷◌, ℕ, zero, suc, ◌+◌}
use Rattle.curve.specs.declared.points.Point.{Point}
use Rattle.power.specs.declared.charger_state.ChargerState.{ChargerState}
use Rattle.power.specs.declared.power.Limit.{Limit}
use Rattle.power.specs.ChargerState.{is_finished}
use Rattle.power.specs.Power.{charge}

-- some charger is finished
abbrev pub or_finished : Bool → ChargerState → Bool
or_finished b s = cond (is_finished s.status) true b

abbrev pub any_finished : Bool → List ChargerState → Bool
any_finished b [] = b
any_finished b (s ∷ ss) = any_finished (or_finished b s) ss

-- Rounds of power and progress, up to k of them after the first `done`, until some charger is finished: the states then, how
-- many rounds that were, and whether a charger is finished.
pub record Spun : Type 0 where
  pub states : List ChargerState
  pub rounds : ℕ
  pub any : Bool

module _ (limit : Limit) (curve : ℕ → List Point) where
  abbrev pub spin : ℕ → ℕ → List ChargerState → Spun
  spin done zero ss = record { states = ss; rounds = done; any = false }
  spin done (suc k) ss =
      let more = spin (done + 1) k (charge limit curve ss) in
      cond (any_finished false (charge limit curve ss)) (record { states = charge limit curve ss; rounds = done + 1; any = true }) more

-- Refinement: even shares dealt to the cars at the places listed.
use Rattle.std.specs.Prelude.{Bool, false, List, [], ◌∷◌, map, ℕ, get_or, set}
use Rattle.power.specs.declared.charger_state.ChargerState.{ChargerState}
use Rattle.power.specs.ChargerState.{empty}
use Rattle.power.specs.Power.{watts_asked, cap_of_share}
use Rattle.power.specs.Code.Rounds.{or_finished}
use Rattle.power.specs.Code.Bank.{moved}

-- what the cars at the places listed ask for
abbrev pub watts_at : List ChargerState → List ℕ → List ℕ
watts_at bank places = map (λ p. watts_asked (get_or bank p empty)) places

-- the car at the place p, a round further under its share w
abbrev pub served : ℕ → ℕ → List ChargerState → ChargerState
served p w bank = moved (cap_of_share w) (get_or bank p empty)

-- the bank after the turns of the cars at the places listed, each under its share
abbrev pub dealt : List ℕ → List ℕ → List ChargerState → List ChargerState
dealt [] ws bank = bank
dealt (p ∷ ps) [] bank = bank
dealt (p ∷ ps) (w ∷ ws) bank = dealt ps ws (set bank p (served p w bank))

-- whether some charger is finished by then, or was before
abbrev pub any_dealt_from : Bool → List ℕ → List ℕ → List ChargerState → Bool
any_dealt_from any [] ws bank = any
any_dealt_from any (p ∷ ps) [] bank = any
any_dealt_from any (p ∷ ps) (w ∷ ws) bank = any_dealt_from (or_finished any (served p w bank)) ps ws (set bank p (served p w bank))

abbrev pub any_dealt : List ℕ → List ℕ → List ChargerState → Bool
any_dealt = any_dealt_from false

-- Refinement: the bank, the states of all chargers in a lent slice.
use Rattle.std.specs.Prelude.{◌≡◌, true, false, List, [], ◌∷◌, ◌⊎◌, ℕ, ◌+◌, Float}
use Rattle.curve.specs.declared.units.Kw.{Kw}
use Rattle.power.specs.declared.charger_state.ChargerState.{ChargerState}
use Rattle.power.specs.ChargerState.{is_free, with_cap, progress}
use Rattle.power.specs.Power.{active, cap_of}
use Rattle.power.specs.Code.Rounds.{Spun}
use Rattle.power.specs.declared.power.Spun as D

-- of the chargers, the first of which is at the place i, just those at the places listed, which rise, are not free
abbrev pub Gaps : ℕ → List ChargerState → List ℕ → Type 0
Gaps i [] ps = ps ≡ []
Gaps i (s ∷ ss) ps = ((is_free s.status ≡ true) × Gaps (i + 1) ss ps) ⊎ ((rest : List ℕ) × (ps ≡ i ∷ rest) × Gaps (i + 1) ss rest × (is_free s.status ≡ false))

-- the cars are at the places listed
pub record Cars (bank : List ChargerState) (places : List ℕ) : Type 0 where
  pub gaps : Gaps 0 bank places

-- the cap and the progress of one charger
abbrev pub moved : Kw → ChargerState → ChargerState
moved cap s = progress (active (with_cap cap) s)

-- by the one factor
abbrev pub advanced : Float → ChargerState → ChargerState
advanced factor s = moved (cap_of factor s) s

-- what `charge_until` answers, with the states that it leaves
abbrev pub spun : List ChargerState → D.Spun → Spun
spun ss r = record { states = ss; rounds = r.rounds; any = r.any }

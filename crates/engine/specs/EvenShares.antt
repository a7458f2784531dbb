-- Rules. Request 10, even shares of the limit, of a run: each round by steps shares it evenly, and a run by events knows no limit.
use Rattle.std.specs.Prelude.{◌≡◌, ℕ}
use Rattle.power.specs.declared.charger_state.ChargerState.{ChargerState}
use Rattle.power.specs.declared.power.Limit.{Limit}
use Rattle.power.specs.EvenShares.{EvenShares}
use Rattle.engine.specs.Plan.{Plan}
use Rattle.engine.specs.SiteState.{SiteState}
use Rattle.engine.specs.Timestep.{State, due, powered, run}
use Rattle.engine.specs.Demand.{by_events}

-- the site that a round's power meets: the events due are handled
abbrev pub met : Plan → State → SiteState ChargerState
met p s = due p s.time s.site.pending s.site

-- in every round of the run by steps, that after n others, the cars that charge have even shares of the limit, which is in whole watts
abbrev pub EvenRounds : Plan → ℕ → Type 0
EvenRounds p limit = (n : ℕ) → EvenShares limit p.curve (met p (run p n)).places (powered p (met p (run p n))).places

-- the same plan with another site limit, or none
abbrev pub with_limit : Limit → Plan → Plan
with_limit limit p = record p { limit = limit }

-- the run by events goes as under any other limit
abbrev pub NoLimit : Plan → Type 0
NoLimit p = (limit : Limit) (n : ℕ) → by_events (with_limit limit p) n ≡ by_events p n

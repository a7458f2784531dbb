-- Rules. Request 12: the events of a charger, by the sessions that a run by steps has so far. A plug-in adds a session of the charger; when the
-- charger is freed, the session there is closed.
use Rattle.std.specs.Prelude.{ℕ, Bool, ◌&&◌, ◌==◌, List, ltb}
use Rattle.charger.specs.Lists.{count}
use Rattle.engine.specs.declared.session.Session.{Session}
use Rattle.engine.specs.Plan.{ChargerPlace}
use Rattle.engine.specs.Demand.{of_outcome, plugged_at}
use Rattle.engine.specs.Timestep.{State}
use Rattle.panel.specs.declared.registers.Bits.{Bits}

-- the session is one of a car that was charged at the charger, which was freed then
abbrev pub charged_at : ChargerPlace → Session → Bool
charged_at c x = of_outcome 1 x && c == x.charger

-- how often a car was plugged in at the charger
abbrev pub plug_ins : ChargerPlace → List Session → ℕ
plug_ins c sessions = count (plugged_at c) sessions

-- how often the charger was freed
abbrev pub releases : ChargerPlace → List Session → ℕ
releases c sessions = count (charged_at c) sessions

-- an event: its bit, and how often it came by the sessions so far
pub record CabinetEvent : Type 0 where
  pub bit : Bits → Bool
  pub times : ChargerPlace → List Session → ℕ

abbrev pub started : CabinetEvent
started = record { bit = λ b. b.started; times = plug_ins }

abbrev pub ended : CabinetEvent
ended = record { bit = λ b. b.ended; times = releases }

-- the event comes at the charger between two states of a run
abbrev pub comes : CabinetEvent → ChargerPlace → State → State → Bool
comes e c before after = ltb (e.times c before.site.sessions) (e.times c after.site.sessions)

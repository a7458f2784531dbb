-- Refinement: what the program's structs stand for. A cabinet holds how often each event had come when its bit was last cleared; the bit is
-- pending where the run's sessions have more of them.
use Rattle.std.specs.Prelude.{◌≡◌, ℕ, ◌≤◌, List, get_or, ltb, cond, Result, MatchResult, Ok, Err}
use Rattle.engine.specs.declared.session.Session.{Session}
use Rattle.engine.specs.Plan.{ChargerPlace, Plan}
use Rattle.files.specs.Read.{read_plan}
use Rattle.panel.specs.declared.panel.AccessRefusal.{AccessRefusal}
use Rattle.engine.specs.Code.Simulation.{booked}
use Rattle.engine.specs.Code.Steps.{Running, step_state}
use Rattle.panel.specs.declared.registers.Bits.{Bits}
use Rattle.panel.specs.declared.registers.Cabinet as Seen
use Rattle.panel.specs.declared.panel.Panel as Code
use Rattle.panel.specs.Registers.{Cabinet, no_bits}
use Rattle.panel.specs.Events.{plug_ins, releases}
use Rattle.panel.specs.Panel.{Panel}

-- what is pending at the charger by some sessions
abbrev pub pending_by : Seen.Cabinet → ChargerPlace → List Session → Bits
pending_by r c xs = record { started = ltb r.plug_ins_seen (plug_ins c xs); ended = ltb r.releases_seen (releases c xs) }

abbrev pub cabinet_by : Seen.Cabinet → ChargerPlace → List Session → Cabinet
cabinet_by r c xs = record { pending = pending_by r c xs; enable = r.enable }

-- the bits of `ones` are cleared: their events were seen as often as they came
abbrev pub cleared_by : Bits → ChargerPlace → List Session → Seen.Cabinet → Seen.Cabinet
cleared_by ones c xs r =
    record { plug_ins_seen = cond ones.started (plug_ins c xs) r.plug_ins_seen; releases_seen = cond ones.ended (releases c xs) r.releases_seen; enable = r.enable }

-- no event was seen, and nothing is enabled
abbrev pub unused : Seen.Cabinet
unused = record { plug_ins_seen = 0; releases_seen = 0; enable = no_bits }

abbrev pub sessions : Code.Panel → List Session
sessions x = booked x.run.state.simulation.sessions

abbrev pub seen_at : Code.Panel → ChargerPlace → Seen.Cabinet
seen_at x c = get_or x.cabinets c unused

-- the rules' plan
abbrev pub the_plan : Code.Panel → Plan
the_plan x = read_plan x.loaded.plan.now

-- what a panel stands for
abbrev pub model : Code.Panel → Panel
model x = record { run = step_state x.run.state x.run.time; cabinets = λ c. cabinet_by (seen_at x c) c (sessions x) }

-- no more events were seen than came
pub record SeenBy (r : Seen.Cabinet) (c : ChargerPlace) (xs : List Session) : Type 0 where
  pub plug_ins : r.plug_ins_seen ≤ plug_ins c xs
  pub releases : r.releases_seen ≤ releases c xs

-- a panel beside a run of its plan
pub record Watches (x : Code.Panel) : Type 0 where
  pub fit : Running x.loaded.site.now 0 x.run.state
  pub seen : (c : ChargerPlace) → SeenBy (seen_at x c) c (sessions x)

-- a panel that stands for `left`, beside the same run as s
pub record Keeps (s : Code.Panel) (left : Panel) (r : Code.Panel) : Type 0 where
  pub model : model r ≡ left
  pub watches : Watches r
  pub loaded : r.loaded ≡ s.loaded

-- an access's answer, as the rules give it
abbrev pub Gives : {A : Type 0} → (A → ℕ) → Result ℕ AccessRefusal → Result A AccessRefusal → Type 0
Gives byte answer result = MatchResult result (λ x. answer ≡ Ok (byte x)) (λ x. answer ≡ Err x)

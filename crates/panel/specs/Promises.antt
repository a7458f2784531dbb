-- Rules. Request 12, sentence by sentence, of a call that was not refused, and of one that was.
use Rattle.std.specs.Prelude.{◌≡◌, ◌≢◌, ◌⊎◌, ℕ, ◌+◌, ◌*◌, ◌/◌, ◌<◌, ◌≤◌, true, List, length, take, drop, get_or, map, Result}
use Rattle.charger.specs.Lists.{tick}
use Rattle.engine.specs.Plan.{ChargerPlace}
use Rattle.engine.specs.Demand.{nobody, last_at, free_by_steps}
use Rattle.engine.specs.Timestep.{State, run}
use Rattle.plan.specs.declared.answer.Refusal.{Refusal}
use Rattle.files.specs.Read.{read_plan}
use Rattle.files.specs.Check.{OfFine}
use Rattle.panel.specs.declared.script.Operation.{Operation}
use Rattle.panel.specs.declared.script.Operation.TheVariants.{Rounds, Read, Write, Line}
use Rattle.panel.specs.Registers.{Cabinet, byte_of, line}
use Rattle.panel.specs.Image.{image}
use Rattle.panel.specs.Panel.{at_charger}
use Rattle.panel.specs.Script.{operation_of, rounds_in}
use Rattle.panel.specs.History.{by_history}
use Rattle.panel.specs.Call.{part_played}

module _ (plan script old new : List ℕ) where
  -- the operations played
  abbrev pub operations : List Operation
  operations = map operation_of (part_played script (length old))

  -- those before the i-th, from 0
  abbrev pub before : ℕ → List Operation
  before i = take i operations

  -- the run by the rules when the i-th operation comes: the run of as many rounds as were asked for before it
  abbrev pub run_at : ℕ → State
  run_at i = run (read_plan plan) (rounds_in (before i))

  -- what is pending and enabled then, by what came about
  abbrev pub cabinet_at : ℕ → ChargerPlace → Cabinet
  cabinet_at i c = by_history (read_plan plan) c (before i)

  -- the i-th operation is this one
  abbrev pub Is : ℕ → Operation → Type 0
  Is i o = (i < length operations) × (get_or operations i o ≡ o)

  -- its answer and byte in the output
  abbrev pub Gets : ℕ → ℕ → ℕ → Type 0
  Gets i answer byte = (get_or new (2 * i) 0 ≡ answer) × (get_or new (2 * i + 1) 0 ≡ byte)

  -- the charger is one of the plan
  abbrev pub There : ChargerPlace → Type 0
  There c = c < length (read_plan plan).chargers

  -- ---- a cabinet is 16 bytes, in plan order from address 0; the run is not changed by reads and writes
  abbrev pub Shows : Result (Unit {0}) Refusal → Type 0
  Shows result =
      OfFine
      ((i c k : ℕ) → There c → k < 16 → Is i (Read (16 * c + k)) → Gets i 0 (get_or (image plan (at_charger (run_at i) c) (cabinet_at i c)) k 0))
      result

  -- status: 0 free, 3 charging, 5 idle
  abbrev pub ShowsStatus : Result (Unit {0}) Refusal → Type 0
  ShowsStatus result = OfFine ((i c : ℕ) → There c → Is i (Read (16 * c)) → Gets i 0 0 ⊎ (Gets i 0 3 ⊎ Gets i 0 5)) result

  -- ---- a pending bit is set exactly if its event came after its last clearing, or came at all where it was never cleared
  abbrev pub Pending : Result (Unit {0}) Refusal → Type 0
  Pending result = OfFine ((i c : ℕ) → There c → Is i (Read (16 * c + 1)) → Gets i 0 (byte_of (cabinet_at i c).pending)) result

  -- ---- enable, 0 at first, takes bits 0 and 1 of what is written and drops the rest
  abbrev pub Enables : Result (Unit {0}) Refusal → Type 0
  Enables result = OfFine ((i c : ℕ) → There c → Is i (Read (16 * c + 2)) → Gets i 0 (byte_of (cabinet_at i c).enable)) result

  -- ---- a cabinet's line is raised while its pending and enable share a bit
  abbrev pub Raises : Result (Unit {0}) Refusal → Type 0
  Raises result = OfFine ((i c : ℕ) → There c → Is i (Line c) → Gets i 0 (tick (line (cabinet_at i c)))) result

  -- ---- free cabinets show zero status, id and energy: those at whose charger no car was ever plugged in, or that was freed since the last one
  abbrev pub FreeShowZero : Result (Unit {0}) Refusal → Type 0
  FreeShowZero result =
      OfFine
      ((i c k : ℕ) → There c → k < 16 → k ≢ 1 → k ≢ 2 → free_by_steps (last_at c nobody (run_at i).site.sessions) ≡ true → Is i (Read (16 * c + k)) → Gets i 0 0)
      result

  -- ---- rounds and writes that are not refused are answered by 0, with no byte
  pub record Accepts : Type 0 where
    pub rounds : (i n : ℕ) → Is i (Rounds n) → Gets i 0 0
    pub pending : (i c byte : ℕ) → There c → Is i (Write (16 * c + 1) byte) → Gets i 0 0
    pub enable : (i c byte : ℕ) → There c → Is i (Write (16 * c + 2) byte) → Gets i 0 0

  abbrev pub AnswersDone : Result (Unit {0}) Refusal → Type 0
  AnswersDone result = OfFine Accepts result

  -- ---- 20: an address outside the chargers' images
  pub record RefusesOutside : Type 0 where
    pub read : (i a : ℕ) → length (read_plan plan).chargers ≤ a / 16 → Is i (Read a) → Gets i 20 0
    pub write : (i a byte : ℕ) → length (read_plan plan).chargers ≤ a / 16 → Is i (Write a byte) → Gets i 20 0
    pub line : (i c : ℕ) → length (read_plan plan).chargers ≤ c → Is i (Line c) → Gets i 20 0

  abbrev pub AnswersOutside : Result (Unit {0}) Refusal → Type 0
  AnswersOutside result = OfFine RefusesOutside result

  -- ---- 21: a byte that cannot be written, tested after 20
  abbrev pub AnswersReadOnly : Result (Unit {0}) Refusal → Type 0
  AnswersReadOnly result =
      OfFine ((i c k byte : ℕ) → There c → k < 16 → k ≢ 1 → k ≢ 2 → Is i (Write (16 * c + k) byte) → Gets i 21 0) result

  -- ---- bytes past those of the operations played stay
  abbrev pub PastStays : Result (Unit {0}) Refusal → Type 0
  PastStays result = OfFine (drop (2 * length operations) new ≡ drop (2 * length operations) old) result

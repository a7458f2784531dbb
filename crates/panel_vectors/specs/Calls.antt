-- What is read of a recorded call, what it answers, and what it leaves in the output. Bytes past the record's end count as 0.
use Rattle.std.specs.Prelude.{ℕ, ◌*◌, min, List, ◌++◌, length, take, drop}
use Rattle.plan.specs.Bytes.{le_at}
use Rattle.plan.specs.Answer.{check_numbers}
use Rattle.panel.specs.Call.{panel_answer, panel_left}
use Rattle.recorded.specs.Replay.{u64s, changes, after_changes}

-- ---- the call that comes first in a record

-- how many operations its script has
abbrev pub count_of : List ℕ → ℕ
count_of rest = min (le_at 4 rest 0) 1024

-- how many bytes of the output and of the plan are lent
abbrev pub room_of : List ℕ → ℕ
room_of rest = le_at 4 rest 4

abbrev pub length_of : List ℕ → ℕ
length_of rest = le_at 4 rest 8

-- the plan with the call's changes
abbrev pub plan_after : List ℕ → List ℕ → List ℕ
plan_after rest plan = changes (le_at 2 (drop 12 rest) 0) (drop 14 rest) plan

-- what follows the changes in the record: the script, and the next call
abbrev pub behind_changes : List ℕ → List ℕ
behind_changes rest = after_changes (le_at 2 (drop 12 rest) 0) (drop 14 rest)

abbrev pub script_of : List ℕ → List ℕ
script_of rest = u64s (count_of rest) (behind_changes rest)

abbrev pub after_call : List ℕ → List ℕ
after_call rest = drop (8 * count_of rest) (behind_changes rest)

-- ---- what becomes of it

-- its eleven numbers
abbrev pub numbers_of : List ℕ → List ℕ → List ℕ → List ℕ
numbers_of plan script out = check_numbers (panel_answer plan script (length out))

-- the output, of which the first bytes were lent
abbrev pub out_after : List ℕ → List ℕ → ℕ → List ℕ → List ℕ
out_after plan script room out = panel_left plan script (take room out) ++ drop room out

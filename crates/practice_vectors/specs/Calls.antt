-- What is read of a recorded call, what it answers, and what it leaves in the output. Bytes past the record's end count as 0.
use Rattle.std.specs.Prelude.{ℕ, List, ◌++◌, length, take, drop}
use Rattle.plan.specs.Bytes.{le_at}
use Rattle.plan.specs.Answer.{check_numbers}
use Rattle.practice.specs.Call.{practice_answer, practice_left}
use Rattle.recorded.specs.Replay.{changes, after_changes}

-- ---- the call that comes first in a record

abbrev pub seed_of : List ℕ → ℕ
seed_of rest = le_at 4 rest 0

abbrev pub count_of : List ℕ → ℕ
count_of rest = le_at 4 rest 4

-- how many bytes of the output and of the plan are lent
abbrev pub room_of : List ℕ → ℕ
room_of rest = le_at 4 rest 8

abbrev pub length_of : List ℕ → ℕ
length_of rest = le_at 4 rest 12

-- the plan with the call's changes
abbrev pub plan_after : List ℕ → List ℕ → List ℕ
plan_after rest plan = changes (le_at 2 (drop 16 rest) 0) (drop 18 rest) plan

-- what follows the call in the record
abbrev pub after_call : List ℕ → List ℕ
after_call rest = after_changes (le_at 2 (drop 16 rest) 0) (drop 18 rest)

-- ---- what becomes of it

-- its eleven numbers
abbrev pub numbers_of : List ℕ → ℕ → ℕ → List ℕ → List ℕ
numbers_of plan seed count out = check_numbers (practice_answer plan seed count (length out))

-- the output, of which the first bytes were lent
abbrev pub out_after : List ℕ → ℕ → ℕ → ℕ → List ℕ → List ℕ
out_after plan seed count room out = practice_left plan seed count (take room out) ++ drop room out

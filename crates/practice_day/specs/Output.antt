-- Rules. What the program writes for an input: the plan of a practice day, or a refusal's number and places.
use Rattle.std.specs.Prelude.{ℕ, List, take, drop, Result, Ok, Err}
use Rattle.plan.specs.Bytes.{le_at}
use Rattle.plan.specs.Answer.{refusal_numbers}
use Rattle.plan.specs.declared.answer.Refusal.{Refusal}
use Rattle.practice.specs.PracticePlan.{practice_plan}
use Rattle.practice.specs.Call.{practice_answer}
use Rattle.program.specs.Output.{line}

-- ---- the input: a 32-bit seed, a 32-bit count, then the plan; missing bytes are zero

abbrev pub seed_of : List ℕ → ℕ
seed_of input = le_at 4 input 0

abbrev pub count_of : List ℕ → ℕ
count_of input = le_at 4 input 4

abbrev pub plan_of : List ℕ → List ℕ
plan_of input = drop 8 input

-- ---- the output

abbrev pub output_of : List ℕ → ℕ → ℕ → Result (Unit {0}) Refusal → List ℕ
output_of plan seed count (Ok u) = practice_plan plan seed count
output_of plan seed count (Err x) = line (take 3 (refusal_numbers x))

-- what the program writes; its buffer has room for the longest plan
unfoldable pub output : List ℕ → List ℕ
output input =
    let plan : List ℕ = plan_of input in
    output_of plan (seed_of input) (count_of input) (practice_answer plan (seed_of input) (count_of input) 57856)

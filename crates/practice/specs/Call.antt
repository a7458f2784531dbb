-- Rules. What the call `practice` answers, and what it leaves in the output.
use Rattle.std.specs.Prelude.{ℕ, cond, not, ◌||◌, List, ltb, eqb, length, Result, Ok, Err}
use Rattle.plan.specs.Places.{vehicle_count}
use Rattle.plan.specs.declared.answer.Refusal.{Refusal}
use Rattle.plan.specs.declared.answer.Refusal.TheVariants.{NoPracticeDay}
use Rattle.files.specs.Check.{then_check, check_plan}
use Rattle.files.specs.Book.{written}
use Rattle.practice.specs.PracticePlan.{practice_plan}

-- 4 to 12 by the plan given; then 19: seed 0, a count that is not from 1 to 64, an output below 57,856 bytes, or not one vehicle
unfoldable pub practice_answer : List ℕ → ℕ → ℕ → ℕ → Result (Unit {0}) Refusal
practice_answer plan seed count room =
    then_check (check_plan plan)
    (cond (eqb seed 0 || eqb count 0 || ltb 64 count || ltb room 57856 || not (eqb (vehicle_count plan) 1)) (Err NoPracticeDay) (Ok tt))

-- a refused call leaves the output untouched
abbrev pub practice_after : List ℕ → ℕ → ℕ → Result (Unit {0}) Refusal → List ℕ → List ℕ
practice_after plan seed count (Ok u) out = written (practice_plan plan seed count) out
practice_after plan seed count (Err x) out = out

-- what the call leaves in the output
abbrev pub practice_left : List ℕ → ℕ → ℕ → List ℕ → List ℕ
practice_left plan seed count out = practice_after plan seed count (practice_answer plan seed count (length out)) out

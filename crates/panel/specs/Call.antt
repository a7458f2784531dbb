-- Rules. What the call `panel` answers, and what it leaves in the output.
use Rattle.std.specs.Prelude.{ℕ, ◌/◌, cond, List, length, take, ltb, map, Result, Ok, Err}
use Rattle.plan.specs.declared.answer.Refusal.{Refusal}
use Rattle.plan.specs.declared.answer.Refusal.TheVariants.{AllowanceAbove}
use Rattle.files.specs.Read.{read_plan}
use Rattle.files.specs.Check.{check_plan}
use Rattle.files.specs.Book.{written}
use Rattle.panel.specs.Panel.{start}
use Rattle.panel.specs.Script.{operation_of, rounds_in, played}

-- as many operations are played as stand in the script and have room in an output of `room` bytes
abbrev pub part_played : List ℕ → ℕ → List ℕ
part_played script room = take (room / 2) script

-- 2 where the rounds that they ask for add up to more than 10,000,000, then 4 to 12 by the plan
unfoldable pub panel_answer : List ℕ → List ℕ → ℕ → Result (Unit {0}) Refusal
panel_answer plan script room = cond (ltb 10000000 (rounds_in (map operation_of (part_played script room)))) (Err AllowanceAbove) (check_plan plan)

-- the operations' answers and bytes; a refused call leaves the output untouched
abbrev pub panel_after : List ℕ → List ℕ → Result (Unit {0}) Refusal → List ℕ → List ℕ
panel_after plan script (Ok u) out = written (played plan (read_plan plan) (part_played script (length out)) (start (read_plan plan))) out
panel_after plan script (Err x) out = out

-- what the call leaves in the output
abbrev pub panel_left : List ℕ → List ℕ → List ℕ → List ℕ
panel_left plan script out = panel_after plan script (panel_answer plan script (length out)) out

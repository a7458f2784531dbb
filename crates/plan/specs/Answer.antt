-- Rules. The paper's number and places of each answer, and its eleven result numbers.
use Rattle.std.specs.Prelude.{ℕ, Result, Ok, Err, List, [], ◌∷◌, replicate}
use Rattle.charger.specs.Lists.{tick}
use Rattle.plan.specs.declared.answer.Rule.{Rule}
use Rattle.plan.specs.declared.answer.Rule.TheVariants.{Length, Check, Header, Field, NoPoint, EqualSoc, UsedId, NoProfile}
use Rattle.plan.specs.declared.answer.Refusal.{Refusal}
use Rattle.plan.specs.declared.answer.Totals.{Totals}
use Rattle.plan.specs.declared.answer.Refusal.TheVariants.{EngineAbove, AllowanceAbove, BookUnder, Broken, CannotCharge, DumpUnder, OtherDump, BookDamaged, BookAgainstRules, VehiclesFull, NotLater, NoPracticeDay}

-- ---- the number and places of each refusal

abbrev pub rule_number : Rule → ℕ
rule_number Length = 4
rule_number Check = 5
rule_number Header = 6
rule_number Field = 7
rule_number NoPoint = 8
rule_number EqualSoc = 9
rule_number UsedId = 10
rule_number NoProfile = 11

abbrev pub number : Refusal → ℕ
number EngineAbove = 1
number AllowanceAbove = 2
number BookUnder = 3
number (Broken r k) = rule_number r
number (CannotCharge v c) = 12
number DumpUnder = 13
number OtherDump = 14
number BookDamaged = 15
number BookAgainstRules = 16
number VehiclesFull = 17
number NotLater = 18
number NoPracticeDay = 19

abbrev pub place : Refusal → ℕ
place EngineAbove = 0
place AllowanceAbove = 0
place BookUnder = 0
place (Broken r k) = k
place (CannotCharge v c) = v
place DumpUnder = 0
place OtherDump = 0
place BookDamaged = 0
place BookAgainstRules = 0
place VehiclesFull = 0
place NotLater = 0
place NoPracticeDay = 0

abbrev pub other_place : Refusal → ℕ
other_place EngineAbove = 0
other_place AllowanceAbove = 0
other_place BookUnder = 0
other_place (Broken r k) = 0
other_place (CannotCharge v c) = c
other_place DumpUnder = 0
other_place OtherDump = 0
other_place BookDamaged = 0
other_place BookAgainstRules = 0
other_place VehiclesFull = 0
other_place NotLater = 0
other_place NoPracticeDay = 0

-- ---- the eleven numbers of each answer: number, places, units used, ended, the six counts

-- every other result number is zero
abbrev pub refused : ℕ → ℕ → ℕ → List ℕ
refused k a b = k ∷ a ∷ b ∷ replicate 8 0

abbrev pub refusal_numbers : Refusal → List ℕ
refusal_numbers x = refused (number x) (place x) (other_place x)

-- a check of a plan that is fine gives zeros
abbrev pub check_numbers : Result (Unit {0}) Refusal → List ℕ
check_numbers (Ok u) = replicate 11 0
check_numbers (Err x) = refusal_numbers x

abbrev pub numbers : Result Totals Refusal → List ℕ
numbers (Ok t) =
    0 ∷ 0 ∷ 0 ∷ t.used ∷ tick t.ended ∷ t.yet_to_arrive ∷ t.queued ∷ t.still_open ∷ t.charged ∷ t.reneged ∷ t.balked ∷ []
numbers (Err x) = refusal_numbers x

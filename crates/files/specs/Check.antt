-- Rules. What a check of a plan answers: the table's rows 4 to 12.
use Rattle.std.specs.Prelude.{◌≡◌, ℕ, ◌+◌, ◌*◌, ◌<◌, List, length, take, Option, Some, None, Result, Ok, Err}
use Rattle.plan.specs.Blocks.{sealed, block}
use Rattle.plan.specs.Places.{place_of}
use Rattle.plan.specs.Plan.{check_blocks}
use Rattle.files.specs.Read.{read_plan}
use Rattle.files.specs.Pairs.{failing_pair}
use Rattle.plan.specs.declared.answer.Refusal.TheVariants.{CannotCharge}
use Rattle.plan.specs.declared.places.Kind.TheVariants.{Charger, Vehicle}
use Rattle.plan.specs.declared.answer.Refusal.{Refusal}

-- 12: a pair that fails is named by its blocks
abbrev pub pair_answer : List ℕ → Option (ℕ × ℕ) → Result (Unit {0}) Refusal
pair_answer plan None = Ok tt
pair_answer plan (Some pair) = Err (CannotCharge (place_of plan Vehicle pair.0) (place_of plan Charger pair.1))

-- what a first check refuses, or what comes of a second one
abbrev pub then_check : {T : Type 0} → Result (Unit {0}) Refusal → Result T Refusal → Result T Refusal
then_check (Ok u) next = next
then_check (Err x) next = Err x

-- what is said where nothing was refused
abbrev pub OfFine : Type 0 → Result (Unit {0}) Refusal → Type 0
OfFine P (Ok u) = P
OfFine P (Err x) = Unit {0}

-- a refused call leaves a buffer untouched
abbrev pub Untouched : List ℕ → List ℕ → Result (Unit {0}) Refusal → Type 0
Untouched old new (Ok u) = Unit {0}
Untouched old new (Err x) = new ≡ old

-- the pairs are tested where the blocks are fine
unfoldable pub check_plan : List ℕ → Result (Unit {0}) Refusal
check_plan plan = then_check (check_blocks plan) (pair_answer plan (failing_pair (read_plan plan)))

-- every block of a plan that is fine is one that is written with its check
abbrev pub AllSealed : List ℕ → Result (Unit {0}) Refusal → Type 0
AllSealed plan (Ok u) = (k : ℕ) → 512 * k < length plan → block plan k ≡ sealed (k + 1) (take 508 (block plan k))
AllSealed plan (Err x) = Unit {0}

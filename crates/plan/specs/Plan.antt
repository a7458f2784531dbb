-- Rules. What a check of a plan's blocks answers: the table's rows 4 to 11.
use Rattle.std.specs.Prelude.{ℕ, ◌+◌, ◌-◌, ◌*◌, ◌/◌, Bool, false, cond, not, ◌&&◌, Result, Ok, Err, List, [], ◌∷◌, length, ◌==◌, nat_eq, nat_le, nat_lt}
use Rattle.std.specs.Float.Ieee.{eq}
use Rattle.plan.specs.Bytes.{le_at}
use Rattle.plan.specs.Blocks.{passes, block, whole_blocks}
use Rattle.plan.specs.Search.{first_index, every, holds}
use Rattle.plan.specs.Fields.{f64_at, letters_ok, header_tests, point_count, profile_tests, charger_tests, vehicle_tests}
use Rattle.plan.specs.Places.{profile_count, charger_count, vehicle_count, kind_at, start_of, is_profile, is_vehicle}
use Rattle.plan.specs.declared.answer.Rule.{Rule}
use Rattle.plan.specs.declared.answer.Rule.TheVariants.{Length, Check, Header, Field, NoPoint, EqualSoc, UsedId, NoProfile}
use Rattle.plan.specs.declared.places.Kind.{Kind}
use Rattle.plan.specs.declared.places.Kind.TheVariants.{Header as HeaderBlock, Profile, Charger, Vehicle}
use Rattle.plan.specs.declared.answer.Refusal.{Refusal}
use Rattle.plan.specs.declared.answer.Refusal.TheVariants.{Broken}

-- ---- ids

-- the id of the block at the index k
unfoldable pub id_at : List ℕ → ℕ → ℕ
id_at plan k = le_at 4 plan (512 * k)

-- the first block from `from` up to, not including, `to` that has the id; `to` where none has it
unfoldable pub with_id : List ℕ → ℕ → ℕ → ℕ → ℕ
with_id plan from to id = first_index (λ j. nat_eq (id_at plan j) id) from (to - from)

-- ---- the table

-- the header's letters and counts, for a plan of so many blocks
abbrev pub count_tests : List ℕ → ℕ → List Bool
count_tests b blocks =
    letters_ok b
    ∷ nat_le (profile_count b) 16
    ∷ nat_le (charger_count b) 32
    ∷ nat_le (vehicle_count b) 64
    ∷ (1 + profile_count b + charger_count b + vehicle_count b == blocks)
    ∷ []

-- every other field, and unnamed and unused bytes
abbrev pub field_tests : Kind → List ℕ → List Bool
field_tests HeaderBlock b = header_tests b
field_tests Profile b = profile_tests b
field_tests Charger b = charger_tests b
field_tests Vehicle b = vehicle_tests b

-- the i-th point's SOC equals that of no point before it
unfoldable pub new_soc : List ℕ → ℕ → Bool
new_soc b i = every (λ j. not (eq (f64_at b (16 + 16 * j)) (f64_at b (16 + 16 * i)))) 0 i

-- the block at the index k is one that the rule refuses; the length is no block's fault
abbrev pub broken : Rule → List ℕ → ℕ → Bool
broken Length plan k = false
-- 5: wrong check
broken Check plan k = not (passes (k + 1) (block plan k))
-- 6: header letters, P, C or V out of limits, or 1 + P + C + V is not the block count
broken Header plan k = k == 0 && not (holds (count_tests (block plan 0) (length plan / 512)))
-- 7: any other field out of limits, or an unnamed or unused byte not zero
broken Field plan k = not (holds (field_tests (kind_at plan k) (block plan k)))
-- 8: point count 0
broken NoPoint plan k = is_profile (kind_at plan k) && point_count (block plan k) == 0
-- 9: two points of equal SOC
broken EqualSoc plan k = is_profile (kind_at plan k) && not (every (new_soc (block plan k)) 0 (point_count (block plan k)))
-- 10: id already used in its kind
broken UsedId plan k = nat_lt (with_id plan (start_of plan (kind_at plan k)) k (id_at plan k)) k
-- 11: vehicle names no profile
broken NoProfile plan k =
    is_vehicle (kind_at plan k) && with_id plan (start_of plan Profile) (start_of plan Charger) (le_at 4 (block plan k) 4) == start_of plan Charger

-- the rules that are tested block by block, in number order
abbrev pub rules : List Rule
rules = Check ∷ Header ∷ Field ∷ NoPoint ∷ EqualSoc ∷ UsedId ∷ NoProfile ∷ []

-- the first of the rules that refuses one of the n blocks, with the first such block's place
unfoldable pub first_refusal : List Rule → List ℕ → ℕ → Result (Unit {0}) Refusal
first_refusal [] plan n = Ok tt
first_refusal (r ∷ rs) plan n =
    let k : ℕ = first_index (broken r plan) 0 n in
    let next : Result (Unit {0}) Refusal = first_refusal rs plan n in
    cond (nat_lt k n) (Err (Broken r (k + 1))) next

-- what a check of the blocks answers; 4: plan is 0 bytes, not a multiple of 512, or above 113 blocks
unfoldable pub check_blocks : List ℕ → Result (Unit {0}) Refusal
check_blocks plan = cond (whole_blocks (length plan) 113) (first_refusal rules plan (length plan / 512)) (Err (Broken Length 0))

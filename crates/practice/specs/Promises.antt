-- Rules. Request 11, sentence by sentence, of a call that was not refused, and of one that was.
use Rattle.std.specs.Prelude.{◌≡◌, ℕ, ◌+◌, ◌*◌, ◌≤◌, ◌<◌, List, take, drop, slice_index, None, Result, Ok, Err}
use Rattle.plan.specs.Answer.{number}
use Rattle.plan.specs.Bytes.{le_at}
use Rattle.plan.specs.Fields.{f64_at}
use Rattle.plan.specs.Places.{profile_count, charger_count, vehicle_count, start_of, vehicle_block}
use Rattle.plan.specs.declared.answer.Refusal.{Refusal}
use Rattle.plan.specs.declared.places.Kind.TheVariants.{Vehicle}
use Rattle.files.specs.Read.{read_plan}
use Rattle.files.specs.Pairs.{failing_pair}
use Rattle.files.specs.Check.{OfFine, check_plan}
use Rattle.practice.specs.Xorshift.{draw}
use Rattle.practice.specs.PracticePlan.{drawn_arrival, drawn_start, drawn_target, cars_at, practice_plan}

-- the bytes of two blocks or files are the same from `from` up to, not including, `to`
abbrev pub Same : List ℕ → List ℕ → ℕ → ℕ → Type 0
Same a b from to = (k : ℕ) → from ≤ k → k < to → slice_index a k ≡ slice_index b k

-- a plan that only 12 can refuse; it is fine where no pair fails
pub record Only12 (outcome : List ℕ) : Type 0 where
  pub refused : (x : Refusal) → check_plan outcome ≡ Err x → number x ≡ 12
  pub fine : failing_pair (read_plan outcome) ≡ None → check_plan outcome ≡ Ok tt

module _ (plan : List ℕ) (seed count : ℕ) where
  -- how long the written plan is
  abbrev pub plan_length : ℕ
  plan_length = 512 * (start_of plan Vehicle + count)

  -- ---- a plan with that many copies, ids from 1; per car three draws give arrival, start and target

  -- the block is, up to its check, the vehicle's with the id i + 1 and three draws
  pub record IsCopy (i : ℕ) (b : List ℕ) : Type 0 where
    pub id : le_at 4 b 0 ≡ i + 1
    pub arrival : le_at 8 b 40 ≡ drawn_arrival (draw seed (3 * i + 1))
    pub start : f64_at b 16 ≡ drawn_start (draw seed (3 * i + 2))
    pub target : f64_at b 24 ≡ drawn_target (draw seed (3 * i + 3))
    pub profile : Same b (vehicle_block plan 0) 4 16
    pub idle : Same b (vehicle_block plan 0) 32 40
    pub rest : Same b (vehicle_block plan 0) 48 508

  -- the plan's header but for V and its check, its profiles and chargers, and as many copies as are asked for
  pub record Copies (out : List ℕ) : Type 0 where
    pub profiles : profile_count out ≡ profile_count plan
    pub chargers : charger_count out ≡ charger_count plan
    pub vehicles : vehicle_count out ≡ count
    pub letters : Same out plan 0 8
    pub header : Same out plan 10 508
    pub kept : Same out plan 512 (cars_at plan)
    pub cars : (i : ℕ) → i < count → IsCopy i (vehicle_block out i)

  abbrev pub PlanOfCopies : List ℕ → Result (Unit {0}) Refusal → Type 0
  PlanOfCopies out result = OfFine (Copies out) result

  -- ---- equal seeds, input plans and counts give equal bytes: these three give them, whatever stood in the output
  abbrev pub EqualBytes : List ℕ → Result (Unit {0}) Refusal → Type 0
  EqualBytes out result = OfFine (take plan_length out ≡ practice_plan plan seed count) result

  -- ---- only 12 can refuse the outcome as a plan
  abbrev pub OnlyPairsRefuse : List ℕ → Result (Unit {0}) Refusal → Type 0
  OnlyPairsRefuse out result = OfFine (Only12 (take plan_length out)) result

  -- ---- bytes past the written plan stay
  abbrev pub PastStays : List ℕ → List ℕ → Result (Unit {0}) Refusal → Type 0
  PastStays old new result = OfFine (drop plan_length new ≡ drop plan_length old) result

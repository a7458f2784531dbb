-- What the call's answer leaves the program to write. Assumes nothing.
use Rattle.std.proofs.Common.{◌≡◌, ℕ, ◌+◌, ◌*◌, ◌≤◌, Bool, true, false, cond, List, length, take, refl, sym, ap, ◌∙◌, length-take-le, arith}
use Rattle.std.specs.Prelude.{Result, Ok, Err}
use Rattle.plan.specs.Answer.{refusal_numbers}
use Rattle.plan.specs.Places.{start_of}
use Rattle.plan.specs.declared.answer.Refusal.{Refusal}
use Rattle.plan.specs.declared.answer.Refusal.TheVariants.{NoPracticeDay}
use Rattle.plan.specs.declared.places.Kind.TheVariants.{Vehicle}
use Rattle.files.specs.Book.{written}
use Rattle.files.specs.Check.{then_check, check_plan}
use Rattle.files.specs.Code.Reading.{Counted}
use Rattle.files.proofs.Accepted.{counted}
use Rattle.files.proofs.check.PairLaws.{plan_fine}
use Rattle.practice.specs.PracticePlan.{practice_plan}
use Rattle.practice.specs.Call.{practice_answer, practice_after}
use Rattle.practice.specs.Promises.{plan_length, EqualBytes}
use Rattle.practice.proofs.call.Promised.{allowed}
use Rattle.program.specs.Output.{line}
use Rattle.practice_day.specs.Output.{seed_of, count_of, plan_of, output_of, output}

-- ---- a plan of which a day can be made

both : (a : Result (Unit {0}) Refusal) (b : Bool) → ◌≡◌ {A = Result (Unit {0}) Refusal} (then_check a (cond b (Err NoPracticeDay) (Ok tt))) (Ok tt) → (a ≡ Ok tt) × (b ≡ false)
both (Ok u) true e = absurd (let z : ◌≡◌ {A = ℕ} 0 1 = cc in omega arith)
both (Ok u) false e = (refl, refl)
both (Err x) b e = absurd (let z : ◌≡◌ {A = ℕ} 0 1 = cc in omega arith)

module _ (plan : List ℕ) (seed count room : ℕ) (e : practice_answer plan seed count room ≡ Ok tt) where
  passed : (check_plan plan ≡ Ok tt) × (count ≤ 64)
  unfolding practice_answer
  passed = let parts = both _ _ e in (parts.0, (allowed _ _ _ _ parts.1).few)

  pub day_counted : Counted plan
  day_counted = counted plan (plan_fine plan passed.0).0

  -- how long its day is, which is what a buffer begins with
  length_day : (out : List ℕ) → length out ≡ 57856 → take (plan_length plan seed count) out ≡ practice_plan plan seed count
      → length (practice_plan plan seed count) ≡ plan_length plan seed count
  length_day out room q = sym (ap length q) ∙ length-take-le (plan_length plan seed count) out (omega (arith, room, passed.1, day_counted))

-- ---- what is left to write

module _ (input plan : List ℕ) (seed count : ℕ) (p : plan ≡ plan_of input) (s : seed ≡ seed_of input) (n : count ≡ count_of input) where
  -- the parts of the input, and the answer for a buffer of 57,856 bytes, give the output
  same_output : (room : ℕ) (r : Result (Unit {0}) Refusal) → room ≡ 57856 → r ≡ practice_answer plan seed count room → output_of plan seed count r ≡ output input
  unfolding output
  same_output room r k e = rw (e, p, s, n, k)

  module _ (out out' : List ℕ) (room : length out ≡ 57856) (r : Result (Unit {0}) Refusal) (e : r ≡ practice_answer plan seed count (length out))
      (a : out' ≡ practice_after plan seed count r out) where
    -- a refusal: the buffer is as it was, and the line is what is left to write
    pub refused : (x : Refusal) → r ≡ Err x → (out' ≡ out) × (line (take 3 (refusal_numbers x)) ≡ output input)
    refused x q = (rw q at a, rw q at (same_output (length out) r room e))

    -- a day: it stands in the buffer, and is so long
    pub made : r ≡ Ok tt → length out' ≡ 57856 → EqualBytes plan seed count out' r
        → (out' ≡ written (output input) out) × (512 * (start_of plan Vehicle + count) ≡ length (output input))
    made q room' b =
        let same = rw q at (same_output (length out) r room e) in
        let long = sym (length_day plan seed count (length out) (sym e ∙ q) out' room' (rw q at b)) in
        (rw (q, same) at a, rw same at long)

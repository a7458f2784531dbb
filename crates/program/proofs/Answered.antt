-- What the answer of a run leaves the program to write. Assumes nothing.
use mathlib.Core.Path.{◌≡◌, refl, sym}
use mathlib.Core.List.{List}
use Prim.Native.Nat.{ℕ, ◌+◌, ◌*◌, ◌/◌, ◌≤◌}
use native.Mathlib.Omega.{arith}
use lib.ListN.{length, get_or, take, drop, length-append}
use lib.Seq.{take_at, length-take-le}
use borrow.Author.Tests.{ne_eqb}
use Rattle.io.specs.Counts.{IsPrefixLen}
use Rattle.plan.specs.Answer.{number, numbers}
use Rattle.files.specs.Call.{book_of, book_after, answer_of}
use Rattle.files.specs.Book.{session_count, written}
use Rattle.files.specs.Demand.{ReadsBack}
use Rattle.plan.specs.declared.answer.Rule.TheVariants.{Length, Check, Header, Field, NoPoint, EqualSoc, UsedId, NoProfile}
use Rattle.plan.specs.declared.answer.Refusal.{Refusal}
use Rattle.plan.specs.declared.answer.Refusal.TheVariants.{EngineAbove, AllowanceAbove, BookUnder, Broken, CannotCharge, DumpUnder, OtherDump, BookDamaged, BookAgainstRules, VehiclesFull, NotLater, NoPracticeDay}
use Rattle.files.proofs.ReadBack.{length_book}
use Rattle.program.specs.Output.{engine_of, allowance_of, plan_of, line, output_of, output}
use Rattle.std.specs.Prelude.{Result, Ok, Err}
use Rattle.plan.specs.declared.answer.Totals.{Totals}

-- a buffer with a file's bytes first, and how many they are
pub shown : (text out out' : List ℕ) (r : ℕ) → out' ≡ written text out → r ≡ length text
    → IsPrefixLen r out' × ((take r out' ≡ text) × (out' ≡ written text out))
unfolding written
shown text out out' r e l =
    let first : take r out' ≡ text = rw e (take_at text (drop (length text) out) r (sym l)) in
    let room : r ≤ length out' = rw (e, length-append) (omega arith) in
    ((room, sym (length-take-le r out' room)), (first, e))

-- a refusal's number is not 0
refused : (x : Refusal) → number x ≡ 0 → ⊥
refused EngineAbove e = omega arith
refused AllowanceAbove e = omega arith
refused BookUnder e = omega arith
refused (Broken Length k) e = omega arith
refused (Broken Check k) e = omega arith
refused (Broken Header k) e = omega arith
refused (Broken Field k) e = omega arith
refused (Broken NoPoint k) e = omega arith
refused (Broken EqualSoc k) e = omega arith
refused (Broken UsedId k) e = omega arith
refused (Broken NoProfile k) e = omega arith
refused (CannotCharge v c) e = omega arith
refused DumpUnder e = omega arith
refused OtherDump e = omega arith
refused BookDamaged e = omega arith
refused BookAgainstRules e = omega arith
refused VehiclesFull e = omega arith
refused NotLater e = omega arith
refused NoPracticeDay e = omega arith

module _ (plan : List ℕ) (engine n : ℕ) (out out' : List ℕ) where
  -- number 0: the book stands in the buffer, and its header tells its length
  pub success : (r : Result Totals Refusal) → out' ≡ book_after plan engine n r out → ReadsBack plan engine n out' r → get_or (numbers r) 0 0 ≡ 0
      → (out' ≡ written (output_of plan engine n r) out) × (512 + 512 * ((session_count out' + 4) / 5) ≡ length (output_of plan engine n r))
  unfolding output_of book_of
  success (Err x) e b z = absurd (refused x z)
  success (Ok t) e b z = (e, rw b.count (sym (length_book engine _ _ _)))

  -- any other: the buffer is as it was, and the line is what is left to write
  pub refusal : (r : Result Totals Refusal) → out' ≡ book_after plan engine n r out → (get_or (numbers r) 0 0 ≡ 0 → ⊥)
      → (out' ≡ out) × (line (take 3 (numbers r)) ≡ output_of plan engine n r)
  unfolding output_of
  refusal (Err x) e z = (e, rw (ne_eqb (number x) 0 z))
  refusal (Ok t) e z = absurd (z refl)

-- the parts of the input, and the answer for a buffer of 7,168 bytes, give the output
pub same_output : (input plan : List ℕ) (engine n room : ℕ) (r : Result Totals Refusal) → plan ≡ plan_of input → engine ≡ engine_of input → n ≡ allowance_of input
    → room ≡ 7168 → r ≡ answer_of plan engine n room → output_of plan engine n r ≡ output input
unfolding output
same_output input plan engine n room r p e a k q = rw (q, p, e, a, k)

-- Rules. Totals of a book, for planners: sessions by outcome, the energy of the charged ones, the longest wait.
use Rattle.std.specs.Prelude.{ℕ, max, Bool, cond, List, [], ◌∷◌, eqb, Result, Ok, Err}
use Rattle.std.specs.Float.{binary64}
use Rattle.std.specs.Float.Ieee.{of_bits}
use Rattle.curve.specs.F64.{◌⊕◌, ratio}
use Rattle.curve.specs.declared.units.Kwh.{Kwh}
use Rattle.charger.specs.Lists.{count}
use Rattle.files.specs.BookSession.{charged}
use Rattle.files.specs.declared.book_session.BookSession.{BookSession}
use Rattle.book_reader.specs.Reader.{Reading, refused, contents}
use Rattle.book_reader.specs.declared.totals.BookTotals.{BookTotals}
use Rattle.plan.specs.declared.answer.Refusal.{Refusal}

abbrev pub of_outcome : ℕ → BookSession → Bool
of_outcome k x = eqb x.outcome k

-- an energy with that of a session, if it is charged; the addition is rounded
abbrev pub energy_with : Kwh → BookSession → Kwh
energy_with sum x = record { 0 = cond (charged x.outcome) (sum.0 ⊕ of_bits binary64 x.energy) sum.0 }

-- and with those of some sessions, in the book's order
unfoldable pub energy_from : Kwh → List BookSession → Kwh
energy_from sum [] = sum
energy_from sum (x ∷ xs) = energy_from (energy_with sum x) xs

-- the longest of a wait and those of some sessions
unfoldable pub longest_from : ℕ → List BookSession → ℕ
longest_from most [] = most
longest_from most (x ∷ xs) = longest_from (max most x.wait) xs

abbrev pub totals_of : List BookSession → BookTotals
totals_of xs =
    record {
      still_open = count (of_outcome 0) xs;
      charged = count (of_outcome 1) xs;
      reneged = count (of_outcome 2) xs;
      balked = count (of_outcome 3) xs;
      energy = energy_from (record { 0 = ratio 0 1 }) xs;
      longest_wait = longest_from 0 xs;
    }

-- those of a book that is accepted
abbrev pub totals_answer : Reading → Result BookTotals Refusal
totals_answer (refused x) = Err x
totals_answer (contents c) = Ok (totals_of c.sessions)

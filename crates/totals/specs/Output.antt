-- Rules. What the program writes for a book: a refusal's number and places, or 0 and the totals.
use Rattle.std.specs.Prelude.{ℕ, List, [], ◌∷◌, take, Result, Ok, Err}
use Rattle.std.specs.Float.{binary64}
use Rattle.std.specs.Float.Ieee.{to_bits}
use Rattle.plan.specs.Answer.{refusal_numbers}
use Rattle.book_reader.specs.Reader.{read_book}
use Rattle.book_reader.specs.Totals.{totals_answer}
use Rattle.book_reader.specs.declared.totals.BookTotals.{BookTotals}
use Rattle.plan.specs.declared.answer.Refusal.{Refusal}
use Rattle.program.specs.Output.{line}

-- 0; how many sessions are open, charged, reneged and balked; the energy's bits; the longest wait
unfoldable pub totals_numbers : BookTotals → List ℕ
totals_numbers t =
    0 ∷ t.still_open ∷ t.charged ∷ t.reneged ∷ t.balked ∷ to_bits binary64 t.energy.0 ∷ t.longest_wait ∷ []

abbrev pub answer_numbers : Result BookTotals Refusal → List ℕ
answer_numbers (Err x) = take 3 (refusal_numbers x)
answer_numbers (Ok t) = totals_numbers t

unfoldable pub output : List ℕ → List ℕ
output book = line (answer_numbers (totals_answer (read_book book)))

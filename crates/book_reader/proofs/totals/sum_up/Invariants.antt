-- `book_reader::totals::sum_up` meets its contract. Assumes nothing.
use mathlib.Core.Path.{◌≡◌}
use lib.ListN.{drop}
use Rattle.book_reader.specs.Totals.{totals_of}
use Rattle.book_reader.specs.Code.Sums.{added_up}
use Rattle.book_reader.proofs.totals.Laws.{Within}
use Rattle.book_reader.proofs.totals.sum_up.Given as goal

abbrev pub invariant-loop-x : goal.invariant-loop-x
invariant-loop-x l = Within l.t l.x-index × (added_up l.t (drop l.x-index l.sessions) ≡ totals_of l.sessions)

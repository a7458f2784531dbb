-- `book_reader::numbers::put_numbers` meets its contract. Assumes nothing.
use mathlib.Core.Path.{◌≡◌}
use Prim.Native.Nat.{◌+◌}
use lib.ListN.{drop}
use lib.Seq.{sets}
use Rattle.book_reader.proofs.numbers.put_numbers.Given as goal

abbrev pub invariant-loop-i : goal.invariant-loop-i
invariant-loop-i l = sets l.out (l.at + l.i) (drop l.i l.row) ≡ sets l.initial.out l.at l.row

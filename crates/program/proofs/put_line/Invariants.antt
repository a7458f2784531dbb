-- `program::put_line` meets its contract. Assumes nothing.
use Rattle.program.proofs.Text.{LineLeft}
use Rattle.program.proofs.put_line.Given as goal

abbrev pub invariant-loop-i : goal.invariant-loop-i
invariant-loop-i l = LineLeft l.numbers l.initial.out l.out l.at l.i

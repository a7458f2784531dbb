-- `files::read::read_curves` meets its contract. Assumes nothing.
use Rattle.files.proofs.read.Laws.{Filled}
use Rattle.files.proofs.read.read_curves.Given as goal

abbrev pub invariant-loop-k : goal.invariant-loop-k
invariant-loop-k l = Filled l.plan.file l.curves l.lens l.k

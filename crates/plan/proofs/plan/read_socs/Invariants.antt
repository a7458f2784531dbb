-- `plan::plan::read_socs` meets its contract. Assumes nothing.
use Rattle.std.proofs.Common.{◌≡◌, take}
use Rattle.plan.specs.Search.{each}
use Rattle.plan.proofs.plan.Laws.{soc_at}
use Rattle.plan.proofs.plan.read_socs.Given as goal

abbrev pub invariant-loop-i : goal.invariant-loop-i
invariant-loop-i l = take l.i l.socs ≡ each (soc_at l.b) 0 l.i

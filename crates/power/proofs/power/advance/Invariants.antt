use Rattle.power.specs.Code.Rounds.{or_finished}
use Rattle.power.specs.Code.Bank.{advanced}
use Rattle.power.proofs.power.Passes.{Passing}
use Rattle.power.proofs.power.advance.Given as goal

abbrev pub invariant-loop-i : goal.invariant-loop-i
invariant-loop-i l =
    Passing (advanced l.factor) or_finished l.busy l.initial.any l.initial.bank l.i-index l.any l.bank

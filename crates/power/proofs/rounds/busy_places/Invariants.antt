use lib.ListN.{take}
use Rattle.power.specs.Code.Bank.{Cars}
use Rattle.power.proofs.rounds.busy_places.Given as goal

abbrev pub invariant-loop-i : goal.invariant-loop-i
invariant-loop-i l = Cars (take l.i l.bank) l.places.items

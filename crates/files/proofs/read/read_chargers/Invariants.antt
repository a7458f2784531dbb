-- `files::read::read_chargers` meets its contract. Assumes nothing.
use Rattle.std.proofs.Common.{◌≡◌}
use Rattle.plan.specs.Search.{each}
use Rattle.files.specs.Read.{charger_of}
use Rattle.plan.specs.Places.{charger_block}
use Rattle.files.proofs.read.read_chargers.Given as goal

abbrev pub invariant-loop-c : goal.invariant-loop-c
invariant-loop-c l = l.chargers.items ≡ each (λ j. charger_of (charger_block l.plan.file j)) 0 l.c

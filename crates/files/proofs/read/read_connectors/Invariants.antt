-- `files::read::read_connectors` meets its contract. The loop's invariant: the first c rows are those of the first c chargers.
use Rattle.std.proofs.Common.{◌≡◌, length, take}
use Rattle.plan.specs.Search.{each}
use Rattle.files.specs.Read.{row_of_charger}
use Rattle.plan.specs.Places.{charger_block}
use Rattle.files.proofs.read.read_connectors.Given as goal

abbrev pub invariant-loop-c : goal.invariant-loop-c
invariant-loop-c l = (length l.rows ≡ 32) × (take l.c l.rows ≡ each (λ j. row_of_charger (charger_block l.plan.file j)) 0 l.c)

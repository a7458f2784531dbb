use Rattle.std.proofs.Common.{◌≡◌, refl, ◌∙◌, arith, length-set}
use Rattle.plan.specs.Search.{each}
use Rattle.plan.specs.Places.{charger_block}
use Rattle.plan.proofs.SearchLaws.{fill_step}
use Rattle.files.specs.Read.{row_of_charger, connector_rows}
use Rattle.files.proofs.read.read_connectors.Goals as goal

pub loop-c-init : goal.loop-c-init
unfolding each
loop-c-init c = (refl, refl)

pub loop-c-preserved : goal.loop-c-preserved
loop-c-preserved c =
    (simp length-set c.loop-c.invariant.0, fill_step (λ j. row_of_charger (charger_block c.args.plan.now.file j)) c.loop-c.rows c.loop-c.c _ (omega arith) c.loop-c.invariant.1 (c.read_row.ensures ∙ rw c.block_of.ensures))

pub returns : goal.returns
unfolding connector_rows
returns c =
    let e : c.loop-c.c ≡ c.charger_count-c-end.result = omega arith in
    rw (← c.charger_count-c-end.ensures.0, ← e) c.loop-c.invariant.1

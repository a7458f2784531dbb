-- `files::read::read_chargers` meets its contract. Assumes nothing.
use Rattle.std.proofs.Common.{◌≡◌, ◌∙◌, arith, length}
use Rattle.plan.specs.Search.{each}
use Rattle.plan.proofs.SearchLaws.{length-each, push_step}
use Rattle.files.specs.Read.{chargers_of}
use Rattle.files.proofs.read.read_chargers.Goals as goal

pub loop-c-init : goal.loop-c-init
unfolding each
loop-c-init c = c.clear.ensures

pub push-requires : goal.push-requires
push-requires c =
    let size : length c.loop-c.chargers.items ≡ c.loop-c.c = rw c.loop-c.invariant (length-each _ 0 c.loop-c.c) in
    (omega arith, omega arith)

pub loop-c-preserved : goal.loop-c-preserved
loop-c-preserved c =
    c.push.ensures.items ∙ push_step _ c.loop-c.chargers.items c.loop-c.c _ c.loop-c.invariant (c.read_charger.ensures ∙ rw c.block_of.ensures)

pub returns : goal.returns
unfolding chargers_of
returns c =
    let e : c.loop-c.c ≡ c.charger_count-c-end.result = omega arith in
    rw (← c.charger_count-c-end.ensures.0, ← e) c.loop-c.invariant

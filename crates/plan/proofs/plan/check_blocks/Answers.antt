-- `plan::plan::check_blocks` meets its contract. Assumes nothing.
use Rattle.std.proofs.Common.{length, sym, ◌∙◌, arith}
use Rattle.plan.specs.Plan.{check_blocks}
use Rattle.plan.proofs.blocks.Laws.{whole_blocks_lem}
use Rattle.plan.proofs.plan.check_blocks.Goals as goal

pub invariant_of-plan : goal.invariant_of-plan
invariant_of-plan c =
    let w = whole_blocks_lem (length c.args.plan.now) 113 (sym c.whole_blocks.ensures ∙ c.if-not-whole_blocks.false) in
    omega arith

pub invariant_of-first_refusal : goal.invariant_of-first_refusal
invariant_of-first_refusal c =
    let w = whole_blocks_lem (length c.args.plan.now) 113 (sym c.whole_blocks.ensures ∙ c.if-not-whole_blocks.false) in
    record { whole = omega arith; few = omega arith }

pub returns-then-not-whole_blocks : goal.returns-then-not-whole_blocks
unfolding check_blocks
returns-then-not-whole_blocks c = rw (← c.whole_blocks.ensures, c.if-not-whole_blocks.true)

pub returns : goal.returns
unfolding check_blocks
returns c = rw (← c.whole_blocks.ensures, c.if-not-whole_blocks.false) c.first_refusal.ensures

use Rattle.std.proofs.Common.{◌≡◌, ◌≤◌, length, sym, ◌∙◌, arith}
use Rattle.curve.proofs.sort.Order.{sort_step, sort_end}
use Rattle.curve.proofs.sort.sort.Goals as goal

pub loop-i-preserved : goal.loop-i-preserved
loop-i-preserved c =
    let fits : c.args.n ≤ length c.loop-i.curve = omega arith in
    sym (sort_step _ _ _ _ _ c.loop-i-test.true fits c.insert.ensures.placed c.insert.ensures.kept) ∙ c.loop-i.invariant

pub returns : goal.returns
returns c =
    let at-end : c.loop-i.i ≡ c.args.n = omega arith in
    sym (sort_end c.loop-i.curve c.args.n _) ∙ rw at-end at c.loop-i.invariant

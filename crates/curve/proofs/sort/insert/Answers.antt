use Rattle.std.proofs.Common.{◌≡◌, ◌<◌, ◌≤◌, ◌+◌, length, sym, ◌∙◌, arith, drop-set-lt}
use Rattle.curve.proofs.sort.Order.{insert-step, insert_end}
use Rattle.curve.proofs.sort.insert.Goals as goal

pub loop-j-preserved : goal.loop-j-preserved
loop-j-preserved c =
    let fits : c.args.n ≤ length c.loop-j.curve = omega arith in
    let past : c.loop-j.j < c.args.n + 1 = omega arith in (
      rw (c.lower.ensures, c.upper-carry.ensures) (sym (insert-step c.loop-j.curve c.loop-j.j c.args.n c.loop-j.carry _ c.loop-j-test.true fits) ∙ c.loop-j.invariant.0),
      rw (drop-set-lt _ _ _ _ past) c.loop-j.invariant.1,
    )

pub returns-clause-placed : goal.returns-clause-placed
returns-clause-placed c =
    let room : c.args.n < length c.loop-j.curve = omega arith in
    let at-end : c.loop-j.j ≡ c.args.n = omega arith in
    rw (← insert_end _ _ _ room) (rw at-end at c.loop-j.invariant.0)

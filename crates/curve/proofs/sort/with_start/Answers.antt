-- `sort::with_start` meets its contract.
use Rattle.std.proofs.Common.{◌<◌, ◌≤◌, length, arith}
use lib.Ieee.{of_bits}
use Rattle.curve.specs.F64.{ratio}
use Rattle.curve.specs.Curve.{with_start}
use Rattle.curve.proofs.points.ByPlace.{past_end}
use Rattle.curve.proofs.sort.Order.{points-first, start_of}
use Rattle.curve.proofs.sort.with_start.Goals as goal

pub returns-then-n-eq0-clause-added : goal.returns-then-n-eq0-clause-added
unfolding with_start
returns-then-n-eq0-clause-added c = rw c.if-n-eq0.true

pub returns-then-p-clause-added : goal.returns-then-p-clause-added
unfolding of_bits ratio
returns-then-p-clause-added c =
    let fits : c.args.n ≤ length c.args.curve.now = omega arith in
    let some : 0 < c.args.n = omega arith in
    rw (c.put_first.ensures, points-first _ _ _ fits, start_of _ _ past_end some fits) (simp c.if-p.true)

pub returns-clause-added : goal.returns-clause-added
unfolding of_bits ratio
returns-clause-added c =
    let fits : c.args.n ≤ length c.args.curve.now = omega arith in
    let some : 0 < c.args.n = omega arith in
    rw (start_of _ _ past_end some fits) (simp c.if-p.false)

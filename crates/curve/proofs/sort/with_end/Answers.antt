-- `sort::with_end` meets its contract.
use Rattle.std.proofs.Common.{◌<◌, ◌≤◌, length, arith}
use Rattle.std.proofs.lemmas.List.{take_more_set}
use lib.Ieee.{of_bits}
use Rattle.curve.specs.F64.{ratio}
use Rattle.curve.specs.Curve.{with_end}
use Rattle.curve.proofs.points.ByPlace.{past_end}
use Rattle.curve.proofs.sort.Order.{end_of}
use Rattle.curve.proofs.sort.with_end.Goals as goal

pub returns-then-n-eq0-clause-added : goal.returns-then-n-eq0-clause-added
unfolding with_end
returns-then-n-eq0-clause-added c = rw c.if-n-eq0.true

pub returns-then-p-clause-added : goal.returns-then-p-clause-added
unfolding of_bits ratio
returns-then-p-clause-added c =
    let room : c.args.n < length c.args.curve.now = omega arith in
    let fits : c.args.n ≤ length c.args.curve.now = omega arith in
    let some : 0 < c.args.n = omega arith in
    rw (take_more_set _ _ _ room, end_of _ _ past_end some fits) (simp c.if-p.true)

pub returns-clause-added : goal.returns-clause-added
unfolding of_bits ratio
returns-clause-added c =
    let fits : c.args.n ≤ length c.args.curve.now = omega arith in
    let some : 0 < c.args.n = omega arith in
    rw (end_of _ _ past_end some fits) (simp c.if-p.false)

use Rattle.std.proofs.Common.{◌≡◌, ◌≤◌, length, drop, arith, refl, drop_of_length-le}
use Rattle.curve.specs.Curve.{reached}
use Rattle.curve.proofs.points.ByPlace.{reached_at}
use Rattle.curve.proofs.points.reached_from.Goals as goal

pub returns-then-soc-curve-clause-found : goal.returns-then-soc-curve-clause-found
returns-then-soc-curve-clause-found c = omega (arith, c.loop-j.invariant, reached_at c.args.soc c.args.curve.now c.loop-j.j c.loop-j-test.true c.if-soc-curve.true)

pub loop-j-preserved : goal.loop-j-preserved
loop-j-preserved c = omega (arith, c.loop-j.invariant, reached_at c.args.soc c.args.curve.now c.loop-j.j c.loop-j-test.true c.if-soc-curve.false)

pub returns-clause-found : goal.returns-clause-found
unfolding reached
returns-clause-found c =
    let past : length c.args.curve.now ≤ c.loop-j.j = omega arith in
    let left : reached c.args.soc (drop c.loop-j.j c.args.curve.now) ≡ 0 = rw drop_of_length-le refl in
    omega (arith, c.loop-j.invariant, left)

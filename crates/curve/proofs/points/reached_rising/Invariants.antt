-- `points::reached_rising` meets its contract. The loop's invariant: the search gets at least as far as the points passed.
use Rattle.std.proofs.Common.{◌+◌, ◌≤◌, length}
use Rattle.curve.specs.Curve.{reached}
use Rattle.curve.proofs.points.reached_rising.Given as goal

abbrev pub invariant-loop-left : goal.invariant-loop-left
invariant-loop-left l = (l.passed + l.left ≤ length l.curve) × (l.passed ≤ reached l.soc l.curve)

abbrev pub decreases-loop-left : goal.decreases-loop-left
decreases-loop-left l = l.left

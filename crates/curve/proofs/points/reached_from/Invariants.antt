-- `points::reached_from` meets its contract. The loop's invariant: with those from j on, as many points are at or below as with those from i on.
use Rattle.std.proofs.Common.{◌≡◌, ◌+◌, drop}
use Rattle.curve.specs.Curve.{reached}
use Rattle.curve.proofs.points.reached_from.Given as goal

abbrev pub invariant-loop-j : goal.invariant-loop-j
invariant-loop-j l = l.j + reached l.soc (drop l.j l.curve) ≡ l.i + reached l.soc (drop l.i l.curve)

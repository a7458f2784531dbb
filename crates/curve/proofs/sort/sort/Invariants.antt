-- `sort::sort` meets its contract. The loop's invariant: to put the points from i on into those before gives what is asked.
use Rattle.std.proofs.Common.{◌≡◌, [], take, drop}
use Rattle.curve.specs.Curve.{sort_into}
use Rattle.curve.proofs.sort.sort.Given as goal

abbrev pub invariant-loop-i : goal.invariant-loop-i
invariant-loop-i l = sort_into (take l.i l.curve) (drop l.i (take l.n l.curve)) ≡ sort_into [] (take l.n l.initial.curve)

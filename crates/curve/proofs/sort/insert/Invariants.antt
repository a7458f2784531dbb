-- `sort::insert` meets its contract. The loop's invariant: to put what is carried among the points from j on gives what is asked.
use Rattle.std.proofs.Common.{◌≡◌, ◌+◌, ◌++◌, take, drop}
use Rattle.curve.specs.Curve.{insert}
use Rattle.curve.proofs.sort.insert.Given as goal

abbrev pub invariant-loop-j : goal.invariant-loop-j
invariant-loop-j l =
    (take l.j l.curve ++ insert l.carry (drop l.j (take l.n l.curve)) ≡ insert l.initial.carry (take l.n l.initial.curve))
    × (drop (l.n + 1) l.curve ≡ drop (l.n + 1) l.initial.curve)

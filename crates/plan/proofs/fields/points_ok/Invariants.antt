-- `plan::fields::points_ok` meets its contract. Assumes nothing.
use Rattle.std.proofs.Common.{◌≡◌, ◌-◌}
use Rattle.plan.specs.Search.{every}
use Rattle.plan.specs.Fields.{point_ok}
use Rattle.plan.proofs.fields.points_ok.Given as goal

abbrev pub invariant-loop-i : goal.invariant-loop-i
invariant-loop-i l = every (point_ok l.b) l.i (l.n - l.i) ≡ every (point_ok l.b) 0 l.n

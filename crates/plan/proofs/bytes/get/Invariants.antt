-- `plan::bytes::get` meets its contract. Assumes nothing.
use Rattle.std.proofs.Common.{◌≡◌, ◌+◌, ◌-◌}
use Rattle.plan.specs.Bytes.{le_at}
use Rattle.plan.proofs.bytes.get.Given as goal

abbrev pub invariant-loop-i : goal.invariant-loop-i
invariant-loop-i l = l.v ≡ le_at (l.n - l.i) l.s (l.at + l.i)

-- `plan::bytes::put` meets its contract. Assumes nothing.
use Rattle.std.proofs.Common.{◌≡◌, ◌+◌, ◌-◌}
use lib.Seq.{sets}
use Rattle.plan.specs.Bytes.{bytes}
use Rattle.plan.proofs.bytes.put.Given as goal

abbrev pub invariant-loop-i : goal.invariant-loop-i
invariant-loop-i l = sets l.s (l.at + l.i) (bytes (l.n - l.i) l.rest) ≡ sets l.initial.s l.at (bytes l.n l.v)

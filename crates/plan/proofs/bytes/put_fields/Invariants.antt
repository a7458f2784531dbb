-- `plan::bytes::put_fields` meets its contract: there is room for what is left to store, and it gives what is asked. Assumes nothing.
use Rattle.std.proofs.Common.{◌≡◌, ◌+◌, ◌≤◌, length, drop}
use lib.Seq.{sets}
use Rattle.plan.specs.Bytes.{fields, in_a_row}
use Rattle.plan.proofs.bytes.put_fields.Given as goal

abbrev pub invariant-loop-n : goal.invariant-loop-n
invariant-loop-n l =
    (l.p + length (fields (in_a_row (drop l.n-index l.f))) ≤ length l.initial.s) × (sets l.s l.p (fields (in_a_row (drop l.n-index l.f))) ≡ sets l.initial.s l.at (fields (in_a_row l.f)))

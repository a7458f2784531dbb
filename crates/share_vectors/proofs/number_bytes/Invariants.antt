-- `share_vectors::number_bytes` meets its contract. Assumes nothing.
use Rattle.std.proofs.Common.{◌≡◌, ◌*◌, drop}
use Rattle.std.specs.List.{flat_map}
use lib.Seq.{sets}
use Rattle.plan.specs.Bytes.{bytes}
use Rattle.share_vectors.proofs.number_bytes.Given as goal

abbrev pub invariant-loop-i : goal.invariant-loop-i
invariant-loop-i l = sets l.out (8 * l.i) (flat_map (bytes 8) (drop l.i l.x-items)) ≡ sets l.initial.out 0 (flat_map (bytes 8) l.x-items)

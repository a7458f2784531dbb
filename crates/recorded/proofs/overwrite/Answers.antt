use Rattle.std.proofs.Common.{arith}
use Rattle.recorded.proofs.Laws.{sets_cut, sets_past}
use Rattle.recorded.proofs.overwrite.Goals as goal

pub returns-then-place-buffer : goal.returns-then-place-buffer
returns-then-place-buffer c = rw c.put_bytes.ensures (sets_cut _ _ _ _ (omega (arith, c.if-place-buffer.true)) c.min-n.ensures)

pub returns-else-place-buffer : goal.returns-else-place-buffer
returns-else-place-buffer c = rw (sets_past _ _ c.args.from.now c.if-place-buffer.false)

use Rattle.std.proofs.Common.{◌≡◌, ◌+◌, ◌*◌, ◌∙◌, drop-drop, add-zero, arith, refl}
use Rattle.plan.specs.Search.{each}
use Rattle.plan.proofs.SearchLaws.{fill_step}
use Rattle.plan.proofs.bytes.Laws.{le_at-drop}
use Rattle.recorded.specs.Replay.{u64_at}
use Rattle.recorded.proofs.Record.u64s.Goals as goal

pub loop-x-init : goal.loop-x-init
unfolding each
loop-x-init c = (refl, refl)

pub loop-x-preserved : goal.loop-x-preserved
loop-x-preserved c =
    let rest = c.args.self.now.rest.now in
    let i = c.loop-x.x-index in
    let read : c.u64.result ≡ u64_at rest i = rw c.loop-x.invariant.1 at c.u64.ensures.number ∙ rw add-zero at (le_at-drop 8 (8 * i) rest 0) in
    let e : 8 * i + 8 ≡ 8 * (i + 1) = omega arith in (
      fill_step (u64_at rest) c.loop-x.buffer i _ (omega arith) c.loop-x.invariant.0 read,
      c.u64.ensures.left ∙ rw (c.loop-x.invariant.1, ← e) (drop-drop 8 (8 * i) rest),
    )

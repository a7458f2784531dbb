use Rattle.std.proofs.Common.{◌≡◌, ◌-◌, arith, rules}
use Rattle.recorded.specs.Replay.{after_changes, changes}
use Rattle.recorded.proofs.Laws.{changes_step}
use Rattle.recorded.proofs.Record.change.Goals as goal

pub loop-preserved : goal.loop-preserved
loop-preserved c =
    changes_step c.u16-changes.result c.loop.counter _ _ _ _ _ _ _ _ _ _ _ (search rules) c.u16-place.ensures.number.0 c.u16-place.ensures.left c.byte-count.ensures.number.0
    c.byte-count.ensures.left c.bytes.ensures.first c.bytes.ensures.left c.overwrite.ensures c.loop.invariant

pub returns-clause-made : goal.returns-clause-made
unfolding changes
returns-clause-made c =
    let e : c.u16-changes.result - c.loop.counter ≡ 0 = omega arith in
    rw (← c.u16-changes.ensures.number.0, ← c.u16-changes.ensures.left) (rw e at c.loop.invariant.0)

pub returns-clause-left : goal.returns-clause-left
unfolding after_changes
returns-clause-left c =
    let e : c.u16-changes.result - c.loop.counter ≡ 0 = omega arith in
    rw (← c.u16-changes.ensures.number.0, ← c.u16-changes.ensures.left) (rw e at c.loop.invariant.1)

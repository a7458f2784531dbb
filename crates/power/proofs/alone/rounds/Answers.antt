use mathlib.Core.Path.{sym, ◌∙◌}
use native.Mathlib.Omega.{arith}
use Rattle.power.proofs.alone.OneCar.{stays_busy, one_finished, one_more, cap_matches}
use Rattle.power.proofs.alone.rounds.Goals as goal

pub returns-then-is_finished : goal.returns-then-is_finished
returns-then-is_finished c =
    sym
    (one_finished _ _ c.loop-k.k _ c.loop-k.s c.next.new.s c.loop-k.invariant.0 (rw c.place-place.ensures at c.next.ensures)
    (omega arith) (sym c.is_finished.ensures ∙ c.if-is_finished.true))
    ∙ c.loop-k.invariant.1

pub loop-k-preserved : goal.loop-k-preserved
loop-k-preserved c = (
  rw c.next.ensures (stays_busy c.args.limit _ c.loop-k.s c.loop-k.invariant.0),
  sym
      (one_more _ _ c.loop-k.k _ c.loop-k.s c.next.new.s c.loop-k.invariant.0 (rw c.place-place.ensures at c.next.ensures)
      (omega arith) (sym c.is_finished.ensures ∙ c.if-is_finished.false))
      ∙ c.loop-k.invariant.1,
  λ later. rw c.next.ensures (cap_matches c.args.limit _ c.loop-k.s),
)

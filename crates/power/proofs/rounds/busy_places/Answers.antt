use mathlib.Core.Path.{sym, ◌∙◌}
use native.Mathlib.Omega.{arith}
use Rattle.power.proofs.power.Gaps.{gathered_free, gathered_car, gathered_few}
use Rattle.power.proofs.rounds.busy_places.Goals as goal
use Rattle.power.proofs.rounds.busy_places.Goals.{then-not-is_free, else-not-is_free}

pub push-requires : goal.push-requires
push-requires c =
    (omega arith, omega (arith, c.requires, gathered_few _ _ _ c.loop-i-test.true c.loop-i.invariant))

pub loop-i-preserved : goal.loop-i-preserved
loop-i-preserved c =
    elim c.if-not-is_free.branch [
      | then-not-is_free w ↦ rw (w.places-is, w.push.ensures.items) (gathered_car _ _ _ c.loop-i-test.true c.loop-i.invariant _ (sym c.is_free.ensures ∙ w.if-not-is_free.true))
      | else-not-is_free w ↦ rw w.places-is (gathered_free _ _ _ c.loop-i-test.true c.loop-i.invariant _ (sym c.is_free.ensures ∙ w.if-not-is_free.false))
    ]

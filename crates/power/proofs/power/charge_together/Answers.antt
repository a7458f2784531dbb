use mathlib.Core.Path.{sym, ◌∙◌}
use native.Mathlib.Omega.{arith}
use Rattle.power.proofs.power.SpinRounds.{spin_more}
use Rattle.power.proofs.power.Gaps.{cars_charged}
use Rattle.power.proofs.power.charge_together.Goals as goal

pub loop-k-preserved : goal.loop-k-preserved
loop-k-preserved c = (
  c.charge.auto.bank ∙ c.loop-k.invariant.0,
  rw c.charge.ensures.moved (sym (spin_more _ _ c.loop-k.k _ _ (omega arith) (rw c.charge.ensures.moved at (sym c.charge.ensures.any ∙ c.if-charge.false))) ∙ c.loop-k.invariant.1),
  rw c.charge.ensures.moved (cars_charged _ _ c.loop-k.invariant.2 _),
)

use mathlib.Core.Path.{sym, ◌∙◌}
use Rattle.power.specs.Power.{request, added}
use Rattle.power.proofs.power.Passes.{added-free}
use Rattle.power.proofs.power.request.Goals as goal

pub returns-then-is_free-clause-summed : goal.returns-then-is_free-clause-summed
returns-then-is_free-clause-summed c = sym (added-free _ _ (sym c.is_free.ensures ∙ c.if-is_free.true))

pub returns-clause-asked : goal.returns-clause-asked
unfolding request
returns-clause-asked c = rw (← c.is_free.ensures, c.if-is_free.false, c.place-place.ensures)

pub returns-clause-summed : goal.returns-clause-summed
unfolding added
returns-clause-summed c = simp (c.added.ensures, c.draw.ensures)

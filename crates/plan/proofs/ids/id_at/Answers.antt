-- `plan::ids::id_at` meets its contract. Assumes nothing.
use Rattle.plan.specs.Plan.{id_at}
use Rattle.plan.proofs.ids.id_at.Goals as goal

pub returns : goal.returns
unfolding id_at
returns c = c.u32_at.ensures

-- `plan::bytes::u16_at` meets its contract. Assumes nothing.
use Rattle.plan.proofs.bytes.Laws.{le_at_lt}
use Rattle.plan.proofs.bytes.u16_at.Goals as goal

pub returns : goal.returns
returns c = (c.get.ensures, rw c.get.ensures (le_at_lt 2 _ _ (λ k. (c.type_inv.s k).fits)))

-- `plan::bytes::u32_at` meets its contract. Assumes nothing.
use Rattle.plan.proofs.bytes.Laws.{le_at_lt}
use Rattle.plan.proofs.bytes.u32_at.Goals as goal

pub overflow_cast-result : goal.overflow_cast-result
overflow_cast-result c = record { fits = rw c.get.ensures (le_at_lt 4 _ _ (λ k. (c.type_inv.s k).fits)) }

use Rattle.plan.proofs.bytes.Laws.{stored_at}
use Rattle.plan.proofs.bytes.put_bytes.Goals as goal

pub returns : goal.returns
returns c = stored_at c.args.s.now _ c.args.from.now c.args.at c.requires c.copy_from_slice.ensures.after

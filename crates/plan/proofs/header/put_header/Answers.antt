-- `plan::header::put_header` meets its contract. Assumes nothing.
use Rattle.plan.proofs.header.Laws.{header_stored}
use Rattle.plan.proofs.header.put_header.Goals as goal

pub returns : goal.returns
returns c =
    let plan = c.plan.inside.bytes.now in
    rw c.plan.view_is at
    (header_stored c.args.vehicles plan c.plan.invariant c.args.s.now _ _ _ _ c.requires c.put_bytes.ensures c.put.ensures c.put_bytes-2.ensures c.seal.ensures)

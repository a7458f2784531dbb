-- `plan::records::put_block` meets its contract.
use Rattle.plan.proofs.records.Laws.{block_in_parts}
use Rattle.plan.proofs.records.put_block.Goals as goal

pub returns : goal.returns
returns g c =
    let r = g.R.Records in
    block_in_parts (r.slot c.args.records.now) g.row.W (g.met.R.Records.wide c.args.records.now) _ _ _ _ _ _ _ _ c.requires.room c.requires.few c.put_records.ensures c.put.ensures c.seal.ensures

-- `dump::header::put_tables` meets its contract. Assumes nothing.
use Rattle.dump.specs.Dump.{table}
use Rattle.dump.proofs.header.Laws.{put_both}
use Rattle.dump.proofs.header.put_tables.Goals as goal

pub returns : goal.returns
unfolding table
returns c = put_both _ _ _ _ _ _ c.put_records.ensures c.put_records-2.ensures c.put.ensures

-- `dump::header::put_header` meets its contract. Assumes nothing.
use native.Mathlib.Omega.{arith}
use Rattle.plan.specs.Bytes.{fields, bytes}
use Rattle.dump.proofs.header.Laws.{put_parts}
use Rattle.dump.proofs.header.put_header.Goals as goal

pub put_fields-requires : goal.put_fields-requires
unfolding fields bytes
put_fields-requires c = omega arith

pub returns : goal.returns
returns c =
    put_parts c.args.counts.queued c.args.counts.busy c.args.counts.events c.args.counts.sessions c.args.counts.used c.args.queue.now c.args.busy.now c.args.s.now _ _ _ c.requires
    c.put_fields.ensures
    c.put_tables.ensures
    c.seal.ensures

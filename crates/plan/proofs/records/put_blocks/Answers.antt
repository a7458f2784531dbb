use Rattle.std.proofs.Common.{◌≡◌, ◌-◌, arith}
use Rattle.plan.specs.Bytes.{pieces}
use Rattle.plan.specs.Blocks.{record_block}
use Rattle.plan.proofs.bytes.Laws.{pieces_step}
use Rattle.plan.proofs.records.Laws.{length_block}
use Rattle.plan.proofs.records.put_blocks.Goals as goal

pub loop-j-preserved : goal.loop-j-preserved
loop-j-preserved g c =
    let r = g.R.Records in
    let slot = r.slot c.args.records.now in
    record {
      long = omega arith;
      left =
          rw c.put_block.ensures
          (pieces_step (record_block slot g.row.W c.args.n c.args.place) 512 (length_block slot g.row.W (g.met.R.Records.wide c.args.records.now) c.args.n c.args.place c.requires.few) c.loop-j.s _ c.args.at c.loop-j.j c.args.blocks c.loop-j.j (omega arith) c.loop-j.invariant.left);
    }

pub returns : goal.returns
unfolding pieces
returns g c =
    let e : c.args.blocks - c.loop-j.j ≡ 0 = omega arith in
    rw e at c.loop-j.invariant.left

use Rattle.std.proofs.Common.{◌≡◌, ◌+◌, ◌-◌, arith}
use Rattle.plan.specs.Bytes.{pieces}
use Rattle.plan.proofs.bytes.Laws.{pieces_step}
use Rattle.plan.proofs.records.put_records.Goals as goal

pub loop-i-preserved : goal.loop-i-preserved
loop-i-preserved g c =
    let r = g.R.Records in
    let f = r.slot c.args.records.now in
    let e : c.args.k + (c.loop-i.i + 1) ≡ c.args.k + c.loop-i.i + 1 = omega arith in
    record {
      long = omega arith;
      left =
          rw (c.put.ensures, e)
          (pieces_step f g.row.W (g.met.R.Records.wide c.args.records.now) c.loop-i.s _ c.args.at (c.args.k + c.loop-i.i) c.args.n c.loop-i.i (omega arith) c.loop-i.invariant.left);
    }

pub returns : goal.returns
unfolding pieces
returns g c =
    let e : c.args.n - c.loop-i.i ≡ 0 = omega arith in
    rw e at c.loop-i.invariant.left

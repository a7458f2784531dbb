-- `plan::bytes::put_fields` meets its contract: there is room for what is left to store. Assumes nothing.
use Rattle.std.proofs.Common.{◌≡◌, [], drop, arith}
use lib.ListN.{drop_of_length-le}
use Rattle.plan.specs.Bytes.{fields}
use Rattle.plan.proofs.bytes.Laws.{fields-step, fields_left}
use Rattle.plan.proofs.bytes.put_fields.Goals as goal

pub put-requires : goal.put-requires
put-requires c = omega (arith, fields_left c.args.f.now c.loop-n.n-index c.loop-n-test.true)

pub overflow_add-p : goal.overflow_add-p
overflow_add-p c = omega (arith, fields_left c.args.f.now c.loop-n.n-index c.loop-n-test.true)

pub loop-n-preserved : goal.loop-n-preserved
loop-n-preserved c = (
  omega (arith, fields_left c.args.f.now c.loop-n.n-index c.loop-n-test.true),
  rw c.put.ensures (fields-step c.loop-n.s _ c.args.f.now c.loop-n.p c.loop-n.n-index c.loop-n-test.true c.loop-n.invariant.1),
)

pub returns : goal.returns
unfolding fields
returns c =
    let e : drop c.loop-n.n-index c.args.f.now ≡ [] = drop_of_length-le c.args.f.now {i = c.loop-n.n-index} (omega arith) in
    rw e at c.loop-n.invariant.1

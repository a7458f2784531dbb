-- `program::put_decimal` meets its contract. Assumes nothing.
use mathlib.Core.Path.{ap}
use native.Mathlib.Omega.{arith}
use lib.ListN.{length, length-append}
use lib.Seq.{length-sets}
use Rattle.program.specs.Output.{decimal}
use Rattle.program.proofs.Text.{few, spelled, length-decimal, store_last}
use Rattle.program.proofs.put_decimal.Goals as goal

pub put_bytes-requires : goal.put_bytes-requires
put_bytes-requires c = omega (arith, few _ _ c.ranges.n.fits c.decimal-k.ensures.len)

pub overflow_add-out : goal.overflow_add-out
overflow_add-out c = omega (arith, few _ _ c.ranges.n.fits c.decimal-k.ensures.len, simp length-sets at (ap length c.put_bytes.ensures))

pub bounds-out-at : goal.bounds-out-at
bounds-out-at c = omega (arith, few _ _ c.ranges.n.fits c.decimal-k.ensures.len, simp length-sets at (ap length c.put_bytes.ensures))

pub overflow_add-result : goal.overflow_add-result
overflow_add-result c = omega (arith, few _ _ c.ranges.n.fits c.decimal-k.ensures.len, simp length-sets at (ap length c.put_bytes.ensures))

pub overflow_add-result-2 : goal.overflow_add-result-2
overflow_add-result-2 c = omega (arith, few _ _ c.ranges.n.fits c.decimal-k.ensures.len, simp length-sets at (ap length c.put_bytes.ensures))

pub returns : goal.returns
returns c =
    let long = length-decimal c.decimal-k.result _ c.ranges.n.fits c.decimal-k.ensures.len in
    let spelt = spelled c.decimal-k.result _ _ c.ranges.n.fits c.decimal-k.ensures.len c.decimal-k.ensures.digits in
    record {
      bounded = omega (arith, few _ _ c.ranges.n.fits c.decimal-k.ensures.len);
      place = rw (length-append, long) (omega arith);
      stored = store_last c.args.out.now _ (decimal c.args.n) _ _ _ (rw spelt at c.put_bytes.ensures) long;
    }

use Rattle.std.proofs.Common.{◌*◌, ◌≤◌, length, arith, rules}
use Rattle.recorded.proofs.Laws.{number_step}
use Rattle.share_vectors.proofs.Laws.{bytes_first}
use Rattle.share_vectors.proofs.number_bytes.Goals as goal

pub loop-i-preserved : goal.loop-i-preserved
loop-i-preserved c = number_step _ _ _ c.as_slice-x-items.result.now c.loop-i.i (search rules) c.put.ensures c.loop-i.invariant

pub returns : goal.returns
returns c =
    let room : 8 * length c.as_slice-x-items.result.now ≤ 520 = omega (arith, c.as_slice-x-items.ensures.fits) in
    rw (← c.as_slice-x-items.ensures.value) (bytes_first _ _ _ c.loop-i.i room c.loop-i-test.false c.loop-i.invariant)

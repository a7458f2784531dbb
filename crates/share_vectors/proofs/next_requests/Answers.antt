use Rattle.std.proofs.Common.{refl, arith}
use Rattle.share_vectors.proofs.Laws.{requests_more, left_more}
use Rattle.share_vectors.proofs.next_requests.Goals as goal

pub loop-init : goal.loop-init
loop-init c = record { many = rw c.new-requests.ensures refl; so_far = c.new-requests.ensures; left = refl }

pub loop-preserved : goal.loop-preserved
loop-preserved c = record {
  many = omega (arith, c.push.ensures.len, c.loop.invariant.many);
  so_far = rw c.push.ensures.items (requests_more _ _ _ _ _ c.loop.invariant.so_far c.loop.invariant.left c.next_watts.ensures.watts);
  left = rw c.next_watts.ensures.left (left_more c.loop.counter c.args.next.now.rest.now _ c.loop.invariant.left);
}

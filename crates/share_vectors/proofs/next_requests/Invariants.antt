-- `share_vectors::next_requests` meets its contract. Assumes nothing.
use Rattle.std.proofs.Common.{◌≡◌, ◌*◌, drop, length}
use Rattle.share_vectors.specs.Lists.{requests}
use Rattle.share_vectors.proofs.next_requests.Given as goal

abbrev pub invariant-loop : goal.invariant-loop
invariant-loop l = record {
  many : length l.requests.items ≡ l.counter;
  so_far : l.requests.items ≡ requests l.counter l.initial.next.rest.now;
  left : l.next.rest.now ≡ drop (8 * l.counter) l.initial.next.rest.now;
}

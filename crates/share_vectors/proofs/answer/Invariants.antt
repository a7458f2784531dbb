-- `share_vectors::answer` meets its contract. Assumes nothing.
use Rattle.std.proofs.Common.{◌≡◌, ◌+◌, ◌*◌, ◌∷◌, length, take}
use Rattle.std.specs.List.{flat_map}
use Rattle.share_vectors.specs.Lists.{share_numbers}
use Rattle.share_vectors.proofs.answer.Given as goal

abbrev pub invariant-loop-w : goal.invariant-loop-w
invariant-loop-w l = record {
  many : length l.numbers.items ≡ 1 + 2 * l.w-index;
  so_far : l.numbers.items ≡ l.limit ∷ flat_map share_numbers (take l.w-index l.w-items);
}

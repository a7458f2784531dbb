-- `header::queue_blocks` meets its contract. The loop's invariant: the blocks of those passed are there.
use Rattle.std.proofs.Common.{◌≡◌, length, take}
use Rattle.charger.specs.Code.Queue.{waiting}
use Rattle.dump.specs.Dump.{queue_blocks}
use Rattle.dump.proofs.header.queue_blocks.Given as goal

abbrev pub invariant-loop-v : goal.invariant-loop-v
invariant-loop-v l = record {
  many : length l.blocks.items ≡ l.v-index;
  so_far : l.blocks.items ≡ queue_blocks l.plan (take l.v-index (waiting l.queue));
}

-- `header::busy_blocks` meets its contract. The loop's invariant: the blocks of the busy ones passed are there.
use Rattle.std.proofs.Common.{◌≡◌, ◌≤◌, ◌*◌, length, take}
use Rattle.dump.specs.Dump.{busy_blocks}
use Rattle.dump.proofs.header.busy_blocks.Given as goal

abbrev pub invariant-loop-c : goal.invariant-loop-c
invariant-loop-c l = record {
  few : length l.blocks.items ≤ 2 * l.c;
  so_far : l.blocks.items ≡ busy_blocks l.plan 0 (take l.c l.places);
}

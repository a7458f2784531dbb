-- `plan::blocks::check_of` meets its contract. Assumes nothing.
use Rattle.std.proofs.Common.{◌≡◌, ◌+◌, ◌%◌, ◌^◌}
use Rattle.plan.specs.Blocks.{words}
use Rattle.plan.proofs.blocks.check_of.Given as goal

abbrev pub invariant-loop-i : goal.invariant-loop-i
invariant-loop-i l = l.sum ≡ (l.place + words l.i l.b) % 2 ^ 32

-- `even::level_of` meets its contract. The loop's invariant: the level is within the limit. What is left of the limit above it falls.
use Rattle.std.proofs.Common.{◌-◌, ◌≤◌}
use Rattle.shares.specs.Shares.{total, cut}
use Rattle.shares.proofs.even.level_of.Given as goal

abbrev pub invariant-loop-level : goal.invariant-loop-level
invariant-loop-level l = total (cut l.level l.requests) ≤ l.limit

abbrev pub decreases-loop-level : goal.decreases-loop-level
decreases-loop-level l = l.limit - l.level

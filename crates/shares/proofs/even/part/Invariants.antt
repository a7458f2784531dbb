-- `even::part` meets its contract. The loop's invariant: what was found, with what is still to come, is the whole.
use Rattle.std.proofs.Common.{◌≡◌, ◌+◌, ◌≤◌, drop}
use Rattle.shares.specs.Code.Parted as Parted
use Rattle.shares.proofs.even.part.Given as goal

abbrev pub invariant-loop-w : goal.invariant-loop-w
invariant-loop-w l = (l.above ≤ l.w-index) × (l.under + Parted.under l.level (drop l.w-index l.requests) ≡ Parted.under l.level l.requests) × (l.above + Parted.above l.level (drop l.w-index l.requests) ≡ Parted.above l.level l.requests)

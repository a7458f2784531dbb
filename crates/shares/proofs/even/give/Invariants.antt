-- `even::give` meets its contract. The loop's invariant: those passed, and what the others are given, is the whole.
use Rattle.std.proofs.Common.{◌≡◌, ◌++◌, take, drop}
use Rattle.shares.specs.Shares.{given}
use Rattle.shares.proofs.even.give.Given as goal

abbrev pub invariant-loop-w : goal.invariant-loop-w
invariant-loop-w l = take l.w-index l.watts ++ given l.level l.rest (drop l.w-index l.watts) ≡ given l.level l.left l.initial.watts

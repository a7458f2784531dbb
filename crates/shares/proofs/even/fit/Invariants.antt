-- `even::fit` meets its contract. The loop's invariant: what is left of the limit, with all requests, is the limit with those still to come.
use Rattle.std.proofs.Common.{◌≡◌, ◌+◌, drop}
use Rattle.shares.specs.Shares.{total}
use Rattle.shares.proofs.even.fit.Given as goal

abbrev pub invariant-loop-w : goal.invariant-loop-w
invariant-loop-w l = (l.left + total l.requests ≡ l.limit + total (drop l.w-index l.requests))

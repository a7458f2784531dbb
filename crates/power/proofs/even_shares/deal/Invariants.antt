use Rattle.power.proofs.even_shares.Deals.{Dealing}
use Rattle.power.proofs.even_shares.deal.Given as goal

abbrev pub invariant-loop-k : goal.invariant-loop-k
invariant-loop-k l = Dealing l.busy l.shares l.initial.bank l.k l.any l.bank

-- `plan::plan::Whole::first_broken` meets its contract. Assumes nothing.
use Rattle.std.proofs.Common.{◌≡◌, ◌-◌}
use Rattle.plan.specs.Search.{first_index}
use Rattle.plan.specs.Plan.{broken}
use Rattle.plan.proofs.plan.Whole.first_broken.Given as goal

abbrev pub invariant-loop-k : goal.invariant-loop-k
invariant-loop-k l = first_index (broken l.rule l.self.plan) l.k (l.self.count - l.k) ≡ first_index (broken l.rule l.self.plan) 0 l.self.count

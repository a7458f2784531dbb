-- `plan::plan::Whole::first_refusal` meets its contract: the rules that are left give what all do. Assumes nothing.
use Rattle.std.proofs.Common.{◌≡◌, drop}
use Rattle.plan.specs.Plan.{rules, first_refusal}
use Rattle.plan.proofs.plan.Whole.first_refusal.Given as goal

abbrev pub invariant-loop-rule : goal.invariant-loop-rule
invariant-loop-rule l = first_refusal (drop l.rule-index rules) l.self.plan l.self.count ≡ first_refusal rules l.self.plan l.self.count

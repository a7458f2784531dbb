use Rattle.std.proofs.Common.{sym, ◌∙◌, arith}
use Rattle.plan.specs.Plan.{broken}
use Rattle.plan.proofs.SearchLaws.{first_again, short_found, short_none}
use Rattle.plan.proofs.plan.Whole.first_broken.Goals as goal

pub returns-then-broken : goal.returns-then-broken
returns-then-broken c =
    short_found (broken c.args.rule c.args.self.now.plan) c.loop-k.k c.args.self.now.count (omega arith) (sym c.broken.ensures ∙ c.if-broken.true) c.loop-k.invariant

pub loop-k-preserved : goal.loop-k-preserved
loop-k-preserved c =
    first_again (broken c.args.rule c.args.self.now.plan) c.loop-k.k c.args.self.now.count (omega arith) (sym c.broken.ensures ∙ c.if-broken.false) c.loop-k.invariant

pub returns : goal.returns
returns c =
    short_none (broken c.args.rule c.args.self.now.plan) c.loop-k.k c.args.self.now.count (omega arith) c.loop-k.invariant

use Rattle.std.proofs.Common.{◌≡◌, sym, refl, ◌∙◌, arith}
use Rattle.plan.specs.Plan.{rules, first_refusal}
use Rattle.plan.proofs.plan.Laws.{refusal_hit, refusal_miss}
use Rattle.plan.proofs.plan.Whole.first_refusal.Goals as goal

pub returns-in-Some : goal.returns-in-Some
returns-in-Some c =
    sym (refusal_hit rules c.args.self.now.plan c.args.self.now.count c.loop-rule.rule-index _ c.loop-rule-test.true refl c.in-Some.k (sym c.first_broken.ensures ∙ c.in-Some.is))
    ∙ c.loop-rule.invariant

pub loop-rule-preserved : goal.loop-rule-preserved
loop-rule-preserved c =
    sym (refusal_miss rules c.args.self.now.plan c.args.self.now.count c.loop-rule.rule-index _ c.loop-rule-test.true refl (sym c.first_broken.ensures ∙ c.in_default.is))
    ∙ c.loop-rule.invariant

pub returns : goal.returns
unfolding first_refusal
returns c =
    let e : c.loop-rule.rule-index ≡ 7 = omega arith in
    rw e at c.loop-rule.invariant

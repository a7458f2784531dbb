use Rattle.std.proofs.Common.{sym, refl, ◌∙◌, arith, eq-eqb, ne_eqb}
use Rattle.plan.specs.Plan.{with_id}
use Rattle.plan.proofs.SearchLaws.{first_again, short_found, short_none}
use Rattle.plan.proofs.ids.with_id.Invariants.{has}
use Rattle.plan.proofs.ids.with_id.Goals as goal

pub loop-j-init : goal.loop-j-init
unfolding with_id
loop-j-init c = refl

pub returns-then-id_at-id : goal.returns-then-id_at-id
returns-then-id_at-id c =
    short_found (has c.args.plan.now c.args.id) c.loop-j.j c.args.to (omega arith) (eq-eqb _ _ (sym c.id_at.ensures ∙ c.if-id_at-id.true)) c.loop-j.invariant

pub loop-j-preserved : goal.loop-j-preserved
loop-j-preserved c =
    first_again (has c.args.plan.now c.args.id) c.loop-j.j c.args.to (omega arith) (ne_eqb _ _ (λ e. c.if-id_at-id.false (c.id_at.ensures ∙ e))) c.loop-j.invariant

pub returns : goal.returns
returns c =
    short_none (has c.args.plan.now c.args.id) c.loop-j.j c.args.to (omega arith) c.loop-j.invariant

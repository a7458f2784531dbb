-- `practice::call::practice` meets its contract. Assumes nothing.
use Rattle.std.proofs.Common.{sym, ◌∙◌, length, arith}
use Rattle.std.proofs.lemmas.Result.{err_from_is_err_and}
use Rattle.plan.specs.Places.{vehicle_count}
use Rattle.files.proofs.Accepted.{counted}
use Rattle.files.proofs.check.PairLaws.{plan_fine}
use Rattle.practice.specs.Call.{practice_answer}
use Rattle.practice.proofs.call.Promised.{allowed, stored, copies, equal, only_12, past}
use Rattle.practice.proofs.call.practice.Goals as goal

pub returns-in_err-check_plan-clause-answer : goal.returns-in_err-check_plan-clause-answer
unfolding practice_answer
returns-in_err-check_plan-clause-answer c =
    let e = err_from_is_err_and c.from_residual.result c.from_residual.ensures.1 in
    rw e.1 (rw (← c.check_plan.ensures, c.in_err-check_plan.was, e.2))

pub invariant_of-plan : goal.invariant_of-plan
invariant_of-plan c = omega (arith, counted c.args.plan.now (plan_fine c.args.plan.now (sym c.check_plan.ensures ∙ c.in_ok-check_plan.was)).0)

pub invariant_of-plan-2 : goal.invariant_of-plan-2
invariant_of-plan-2 c = record { counted = counted c.args.plan.now (plan_fine c.args.plan.now (sym c.check_plan.ensures ∙ c.in_ok-check_plan.was)).0 }

pub returns-then-seed-count-clause-answer : goal.returns-then-seed-count-clause-answer
unfolding practice_answer
returns-then-seed-count-clause-answer c =
    rw (← c.check_plan.ensures, c.in_ok-check_plan.was, rw c.vehicle_count-one.ensures.0 at c.if-seed-count.true)

pub returns : goal.returns
unfolding practice_answer
returns c =
    let plan = c.args.plan.now in
    let seed = c.args.seed in
    let count = c.args.count in
    let old = c.args.out.now in
    let fine = sym c.check_plan.ensures ∙ c.in_ok-check_plan.was in
    let tested = rw c.vehicle_count-one.ensures.0 at c.if-seed-count.false in
    let ok = allowed seed count (length old) (vehicle_count plan) tested in
    let made = c.put_practice_plan.ensures ∙ stored plan fine ok.one seed count ok.some ok.few old ok.long in
    record {
      answer = rw (fine, tested);
      out = made;
      copies = rw made (copies plan fine ok.one seed count ok.some ok.few old);
      equal = rw made (equal plan fine ok.one seed count ok.some ok.few old);
      only_12 = rw (made, equal plan fine ok.one seed count ok.some ok.few old) (only_12 plan fine ok.one seed count ok.some ok.few);
      past = rw made (past plan fine ok.one seed count ok.some ok.few old);
      untouched = tt;
    }

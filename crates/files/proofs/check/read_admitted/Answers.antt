-- `files::check::read_admitted` meets its contract. Assumes nothing.
use Rattle.std.proofs.Common.{◌∙◌, ap, arith}
use Rattle.files.specs.Check.{pair_answer}
use Rattle.files.proofs.check.PairLaws.{reads}
use Rattle.files.specs.Pairs.{failing_pair}
use Rattle.files.proofs.Accepted.{counted}
use Rattle.files.proofs.check.read_admitted.Goals as goal

pub invariant_of-plan : goal.invariant_of-plan
invariant_of-plan c = omega (arith, counted _ c.requires)

pub invariant_of-plan-2 : goal.invariant_of-plan-2
invariant_of-plan-2 c = record { counted = counted _ c.requires }

pub returns-clause-answer : goal.returns-clause-answer
returns-clause-answer c =
    reads _ _ _ c.requires c.read_site.ensures (c.pair_answer.ensures ∙ ap (pair_answer c.args.plan.now) (c.failing_pair.ensures ∙ ap failing_pair c.read_site.ensures))

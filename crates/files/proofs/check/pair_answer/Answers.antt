-- `files::check::pair_answer` meets its contract. Assumes nothing.
use Rattle.std.proofs.Common.{sym, ◌∙◌, arith}
use Rattle.files.proofs.check.PairLaws.{pair_places}
use Rattle.files.proofs.check.pair_answer.Goals as goal

pub place_of-requires : goal.place_of-requires
place_of-requires c = omega (arith, c.args.plan.now.counted, pair_places _ _ _ c.args.plan.now.counted (sym c.requires ∙ c.in-Some.is))

pub place_of-requires-in-Some : goal.place_of-requires-in-Some
place_of-requires-in-Some c = omega (arith, c.args.plan.now.counted, pair_places _ _ _ c.args.plan.now.counted (sym c.requires ∙ c.in-Some.is))

-- `files::pairs::failing_pair` meets its contract. Assumes nothing.
use Rattle.std.proofs.Common.{sym, ◌∙◌, arith}
use Rattle.files.proofs.pairs.Laws.{pair_met, pair_passed, pair_none}
use Rattle.files.proofs.pairs.failing_pair.Goals as goal

pub returns-in-Some : goal.returns-in-Some
returns-in-Some c = pair_met _ c.loop-v.v c.loop-v.invariant c.in-Some.c (sym c.failing_charger.ensures ∙ c.in-Some.is) (omega arith)

pub loop-v-preserved : goal.loop-v-preserved
loop-v-preserved c = pair_passed _ c.loop-v.v c.loop-v.invariant (sym c.failing_charger.ensures ∙ c.in_default.is) (omega arith)

pub returns : goal.returns
returns c = pair_none _ c.loop-v.v c.loop-v.invariant (omega arith)

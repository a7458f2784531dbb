-- `files::pairs::failing_charger` meets its contract. Assumes nothing.
use Rattle.std.proofs.Common.{sym, ◌∙◌, arith}
use native.Mathlib.Nat.{sub-zero}
use Rattle.plan.proofs.SearchLaws.{first_again, short_found, short_none}
use Rattle.files.specs.Pairs.{failing_charger}
use Rattle.files.proofs.pairs.failing_charger.Goals as goal

pub loop-c-init : goal.loop-c-init
unfolding failing_charger
loop-c-init c = rw sub-zero

pub returns-then-fails : goal.returns-then-fails
returns-then-fails c = short_found _ c.loop-c.c _ (omega arith) (sym c.fails.ensures ∙ c.if-fails.true) c.loop-c.invariant

pub loop-c-preserved : goal.loop-c-preserved
loop-c-preserved c = first_again _ c.loop-c.c _ (omega arith) (sym c.fails.ensures ∙ c.if-fails.false) c.loop-c.invariant

pub returns : goal.returns
returns c = short_none _ c.loop-c.c _ (omega arith) c.loop-c.invariant

use mathlib.Core.Path.{sym, ◌∙◌}
use native.Mathlib.Omega.{arith}
use Rattle.plan.proofs.SearchLaws.{every_again, every-broken, every_end}
use Rattle.book_reader.proofs.blocks.all_pass.Invariants.{passing}
use Rattle.book_reader.proofs.blocks.all_pass.Goals as goal

pub returns-then-not-passes : goal.returns-then-not-passes
returns-then-not-passes c =
    sym (every-broken (passing c.args.book.now) c.loop-k.k c.args.n (omega arith) (sym c.passes.ensures ∙ c.if-not-passes.true)) ∙ c.loop-k.invariant

pub loop-k-preserved : goal.loop-k-preserved
loop-k-preserved c =
    every_again (passing c.args.book.now) c.loop-k.k c.args.n (omega arith) (sym c.passes.ensures ∙ c.if-not-passes.false) c.loop-k.invariant

pub returns : goal.returns
returns c =
    sym (every_end (passing c.args.book.now) c.loop-k.k c.args.n (omega arith)) ∙ c.loop-k.invariant

use Rattle.std.proofs.Common.{length, sym, ◌∙◌, arith}
use Rattle.plan.proofs.SearchLaws.{every_again, every-broken, every_end}
use Rattle.plan.proofs.plan.all_new.Invariants.{new_at}
use Rattle.plan.proofs.plan.all_new.Goals as goal

pub returns-then-not-new_soc : goal.returns-then-not-new_soc
returns-then-not-new_soc c =
    sym (every-broken (new_at c.args.socs.now) c.loop-i.i (length c.args.socs.now) (omega arith) (sym c.new_soc.ensures ∙ c.if-not-new_soc.true)) ∙ c.loop-i.invariant

pub loop-i-preserved : goal.loop-i-preserved
loop-i-preserved c =
    every_again (new_at c.args.socs.now) c.loop-i.i (length c.args.socs.now) (omega arith) (sym c.new_soc.ensures ∙ c.if-not-new_soc.false) c.loop-i.invariant

pub returns : goal.returns
returns c =
    sym (every_end (new_at c.args.socs.now) c.loop-i.i (length c.args.socs.now) (omega arith)) ∙ c.loop-i.invariant

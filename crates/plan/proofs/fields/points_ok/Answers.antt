use Rattle.std.proofs.Common.{sym, ◌∙◌, arith}
use Rattle.plan.specs.Fields.{point_ok}
use Rattle.plan.proofs.SearchLaws.{every_again, every-broken, every_end}
use Rattle.plan.proofs.fields.points_ok.Goals as goal

pub returns-then-not-point_ok : goal.returns-then-not-point_ok
returns-then-not-point_ok c =
    sym (every-broken (point_ok c.args.b.now) c.loop-i.i c.args.n (omega arith) (sym c.point_ok.ensures ∙ c.if-not-point_ok.true)) ∙ c.loop-i.invariant

pub loop-i-preserved : goal.loop-i-preserved
loop-i-preserved c =
    every_again (point_ok c.args.b.now) c.loop-i.i c.args.n (omega arith) (sym c.point_ok.ensures ∙ c.if-not-point_ok.false) c.loop-i.invariant

pub returns : goal.returns
returns c =
    sym (every_end (point_ok c.args.b.now) c.loop-i.i c.args.n (omega arith)) ∙ c.loop-i.invariant

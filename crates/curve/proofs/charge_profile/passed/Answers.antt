use Rattle.std.proofs.Common.{refl, ap, not}
use Rattle.curve.specs.Code.Places.{passed}
use Rattle.curve.proofs.points.ByPlace.{past, stops, goes_on, passed_step}
use Rattle.curve.proofs.charge_profile.passed.Goals as goal

pub loop-i-preserved : goal.loop-i-preserved
loop-i-preserved c = goes_on _ _ _ c.loop-i.invariant _ (passed_step c.args.soc) c.loop-i-test.true (ap not c.if-not-p-soc.false)

pub returns-then-not-p-soc-clause-found : goal.returns-then-not-p-soc-clause-found
returns-then-not-p-soc-clause-found c = stops _ _ _ c.loop-i.invariant _ (passed_step c.args.soc) c.loop-i-test.true (ap not c.if-not-p-soc.true)

pub returns-clause-found : goal.returns-clause-found
unfolding passed
returns-clause-found c = past _ _ _ c.loop-i.invariant c.loop-i-test.false refl

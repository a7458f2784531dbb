-- `plan::places::PlanFile::kind_at` meets its contract. Assumes nothing.
use Rattle.std.proofs.Common.{eq-eqb, ne_eqb, le-leb}
use borrow.Author.Tests.{lt-leb}
use Rattle.plan.specs.Places.{kind_at}
use Rattle.plan.proofs.places.PlanFile.kind_at.Goals as goal

pub returns-then-k-eq0 : goal.returns-then-k-eq0
unfolding kind_at
returns-then-k-eq0 c = rw (eq-eqb _ 0 c.if-k-eq0.true)

pub returns-then-k-profiles : goal.returns-then-k-profiles
unfolding kind_at
returns-then-k-profiles c = rw (← c.profile_count-profiles.ensures.0, ne_eqb _ 0 c.if-k-eq0.false, le-leb _ _ c.if-k-profiles.true)

pub returns-then-k-profiles-2 : goal.returns-then-k-profiles-2
unfolding kind_at
returns-then-k-profiles-2 c = rw (← c.profile_count-profiles.ensures.0, ← c.charger_count-chargers.ensures.0, ne_eqb _ 0 c.if-k-eq0.false, lt-leb _ _ c.if-k-profiles.false, le-leb _ _ c.if-k-profiles-2.true)

pub returns : goal.returns
unfolding kind_at
returns c = rw (← c.profile_count-profiles.ensures.0, ← c.charger_count-chargers.ensures.0, ne_eqb _ 0 c.if-k-eq0.false, lt-leb _ _ c.if-k-profiles.false, lt-leb _ _ c.if-k-profiles-2.false)

use Rattle.std.proofs.Common.{◌≡◌, ◌+◌, ◌-◌, sym, arith, length}
use Rattle.std.proofs.lemmas.Slice.{between_to_end}
use lib.Ieee.{of_bits}
use Rattle.curve.specs.F64.{ratio}
use Rattle.curve.specs.Code.Places.{passed}
use Rattle.curve.proofs.points.ByPlace.{past_end}
use Rattle.curve.proofs.charge_profile.Segments.{no_segment, first_segment, passed-reached, next_segment, last_segment}
use Rattle.curve.proofs.charge_profile.Laws.{stays}
use Rattle.curve.proofs.charge_profile.integrate_over.Goals as goal

pub returns-then-curve-eq0 : goal.returns-then-curve-eq0
unfolding of_bits ratio
returns-then-curve-eq0 c = sym (no_segment c.args.curve.now c.args.battery c.args.target c.args.cap c.args.start c.if-curve-eq0.true)

pub locate_from-requires : goal.locate_from-requires
locate_from-requires c =
    rw c.passed-skipped.ensures.found (passed-reached c.args.start c.args.curve.now)

pub loop-q-init : goal.loop-q-init
unfolding of_bits ratio
loop-q-init c =
    let first : c.saturating_sub-first.result ≡ passed c.args.start c.args.curve.now - 1 = rw c.passed-skipped.ensures.found at c.saturating_sub-first.ensures in (
      rw c.locate_from.ensures,
      rw (between_to_end c.args.curve.now (c.saturating_sub-first.result + 1) (length c.args.curve.now) (omega arith))
          (sym (first_segment c.args.curve.now c.args.battery c.args.target c.args.cap _ c.args.start c.saturating_sub-first.result c.if-curve-eq0.false (omega arith))),
    )

pub loop-q-preserved : goal.loop-q-preserved
loop-q-preserved c = (rw c.through-w.ensures, rw (← c.loop-q.invariant.1, next_segment _ _ _ _ _ _ _ _ past_end c.loop-q-test.true, c.through-w.ensures))

pub returns-then-target-w : goal.returns-then-target-w
returns-then-target-w c =
    rw (← c.loop-q.invariant.1, stays _ _ _ _ c.loop-q.w.charge c.if-target-w.true)

pub returns : goal.returns
returns c = rw (← c.loop-q.invariant.1, last_segment _ _ _ _ _ _ _ _ c.loop-q-test.false)

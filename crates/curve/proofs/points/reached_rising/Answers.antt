use Rattle.std.proofs.Common.{arith, ◌∙◌}
use Rattle.curve.proofs.charge_profile.Segments.{reached_from_lem}
use Rattle.curve.proofs.points.Rising.{reached_past}
use Rattle.curve.proofs.points.reached_rising.Goals as goal

pub loop-left-preserved : goal.loop-left-preserved
loop-left-preserved c = grind (arith, reached_past)

pub returns : goal.returns
returns c = record { bounded = c.reached_from.ensures.bounded; found = c.reached_from.ensures.found ∙ reached_from_lem c.args.soc c.args.curve.now c.loop-left.passed c.loop-left.invariant.1 }

-- `points::reached_near` meets its contract: where the point before the place `near` is not above `soc`, the search gets there.
use Rattle.std.proofs.Common.{arith}
use Rattle.curve.proofs.charge_profile.Segments.{reached_from_lem}
use Rattle.curve.proofs.points.Rising.{reached_past}
use Rattle.curve.proofs.points.reached_near.Goals as goal

pub returns : goal.returns
returns c = grind (arith, reached_past, reached_from_lem)

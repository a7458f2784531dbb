-- `charge_profile::locate_from` meets its contract: the search goes on from any place that it gets to.
use Rattle.std.proofs.Common.{◌∙◌, arith}
use Rattle.curve.specs.Curve.{power_at}
use Rattle.curve.proofs.charge_profile.Segments.{reached_bounded, reached_from_lem}
use Rattle.curve.proofs.charge_profile.locate_from.Goals as goal

pub reached_from-reached-requires : goal.reached_from-reached-requires
reached_from-reached-requires c = omega (arith, reached_bounded c.args.curve.now c.args.soc)

pub returns : goal.returns
unfolding power_at
returns c =
    let found = c.reached_from-reached.ensures.found ∙ reached_from_lem c.args.soc c.args.curve.now c.args.i c.requires in
    rw (c.power_after.ensures, found)

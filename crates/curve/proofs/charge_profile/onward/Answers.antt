-- `charge_profile::onward` meets its contract: what is at or below `from` is at or below `to`, if that is not lower.
use Rattle.std.proofs.Common.{ap}
use Rattle.curve.specs.declared.charge_profile.Place.{Place}
use Rattle.curve.proofs.charge_profile.Segments.{no_fewer}
use Rattle.curve.proofs.charge_profile.onward.Goals as goal

pub locate_from-requires : goal.locate_from-requires
locate_from-requires c =
    rw (ap (λ (p : Place). p.reached) c.requires) (no_fewer c.args.from c.args.to c.if-from-to.true c.args.curve.now)

use lib.Ieee.{of_bits}
use Rattle.curve.specs.F64.{ratio}
use Rattle.power.specs.Power.{added, watts_asked}
use Rattle.power.specs.Code.Alone.{cap_alone, scaled_alone, share_alone}
use Rattle.power.proofs.alone.OneCar.{alone_scaled}
use Rattle.power.proofs.power.Passes.{unshared_by_factor}
use Rattle.power.proofs.alone.cap_alone.Goals as goal

pub returns-in-Shared : goal.returns-in-Shared
unfolding cap_alone share_alone watts_asked
returns-in-Shared c = rw (c.in-Shared.is, c.cap_of_share.ensures, c.min.ensures, c.watts_asked.ensures)

pub returns-in_default : goal.returns-in_default
unfolding of_bits ratio scaled_alone added
returns-in_default c =
    rw (alone_scaled c.args.limit c.args.s.now (unshared_by_factor c.args.limit c.in_default.not-Shared), c.cap_of.ensures, c.scaling.ensures, c.added.ensures, c.draw.ensures)

use Rattle.power.specs.Power.{cap_of_share}
use Rattle.power.proofs.even_shares.cap_of_share.Goals as goal

pub returns : goal.returns
unfolding cap_of_share
returns c = rw c.kilowatts.ensures

-- `engine::session::uncharged` meets its contract. Assumes nothing.
use Rattle.std.proofs.Common.{refl}
use lib.Ieee.{of_bits}
use Rattle.curve.specs.F64.{ratio}
use Rattle.engine.specs.SiteState.{uncharged}
use Rattle.engine.proofs.session.uncharged.Goals as goal

pub returns : goal.returns
unfolding uncharged ratio of_bits
returns c = refl

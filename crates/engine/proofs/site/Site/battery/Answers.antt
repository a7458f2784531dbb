-- `engine::site::Site::battery` meets its contract: past the last profile code and definition have the same constant. Assumes nothing.
use Rattle.std.proofs.Common.{rules}
use lib.Ieee.{of_bits}
use Rattle.curve.specs.F64.{ratio}
use Rattle.engine.proofs.site.Site.battery.Goals as goal

pub returns : goal.returns
unfolding of_bits ratio
returns c = search rules

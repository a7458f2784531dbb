-- `files::read::read_battery` meets its contract. Assumes nothing.
use borrow.Author.Tests.{lt-ltb, le-ltb}
use lib.Ieee.{of_bits}
use Rattle.curve.specs.F64.{ratio}
use Rattle.files.specs.Read.{battery_of}
use Rattle.files.proofs.read.read_battery.Goals as goal

pub returns-then-k-profile_count : goal.returns-then-k-profile_count
unfolding battery_of
returns-then-k-profile_count c = rw (← c.profile_count.ensures.0, lt-ltb _ _ c.if-k-profile_count.true) (cc)

pub returns : goal.returns
unfolding battery_of of_bits ratio
returns c = rw (← c.profile_count.ensures.0, le-ltb _ _ c.if-k-profile_count.false)

-- `totals::totals_numbers` meets its contract. Assumes nothing.
use Rattle.totals.specs.Output.{totals_numbers}
use Rattle.totals.proofs.totals_numbers.Goals as goal

pub returns : goal.returns
unfolding totals_numbers
returns c = rw c.to_bits-energy.ensures

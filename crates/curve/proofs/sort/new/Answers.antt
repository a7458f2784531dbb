-- `sort::new` meets its contract.
use Rattle.curve.specs.Curve.{curve_of}
use Rattle.curve.proofs.sort.new.Goals as goal

pub returns-clause-made : goal.returns-clause-made
unfolding curve_of
returns-clause-made c = rw (c.with_end.ensures.added, c.with_start-m.ensures.added, c.sort.ensures)

-- `panel::panel::byte_at` meets its contract. Assumes nothing.
use Rattle.std.proofs.Common.{replicate, refl}
use Rattle.panel.proofs.panel.ImageBytes.{of_stored}
use Rattle.panel.proofs.panel.byte_at.Goals as goal

pub returns : goal.returns
returns c = of_stored c.put.new.s (replicate 8 0) c.args.v c.args.k c.requires refl c.put.ensures

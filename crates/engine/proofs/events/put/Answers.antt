-- `engine::events::put` meets its contract. Assumes nothing.
use Rattle.engine.proofs.events.Push.{push_back}
use Rattle.engine.proofs.events.put.Goals as goal

pub returns : goal.returns
returns c =
    push_back c.args.e c.args.events.now.items c.insert.new.self.items c.behind.result c.unwrap_or-behind.result c.requires.order
    (rw c.as_slice.ensures.value at c.behind.ensures)
    (rw c.len-many.ensures.value at c.unwrap_or-behind.ensures)
    (rw c.len-many.ensures.value at c.insert.ensures.items)

-- `dump::event_blocks::Events::put` meets its contract. Assumes nothing.
use Rattle.std.proofs.Common.{sym, ◌∙◌}
use Rattle.dump.proofs.event_blocks.Laws.{slot_some, slot_none, near_there}
use Rattle.dump.proofs.event_blocks.EventsRecords16.put.Goals as goal

pub put_event-requires-clause-near : goal.put_event-requires-clause-near
put_event-requires-clause-near c = near_there _ _ _ (sym c.event_at.ensures ∙ c.in-Some.is) c.args.self.now.near

pub returns-in-Some : goal.returns-in-Some
returns-in-Some c = rw (slot_some c.args.self.now.plan.now _ _ _ (sym c.event_at.ensures ∙ c.in-Some.is)) c.put_event.ensures

pub returns-in-None : goal.returns-in-None
returns-in-None c = rw (slot_none c.args.self.now.plan.now _ _ (sym c.event_at.ensures ∙ c.in-None.is)) c.put.ensures

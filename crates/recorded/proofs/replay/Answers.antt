use Rattle.recorded.proofs.replay.Goals as goal

pub returns : goal.returns
returns g c = (c.u32-calls.new.self, c.u32-calls.ensures.left, rw (← c.u32-calls.ensures.number) c.make_calls.ensures)

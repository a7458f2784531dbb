use Rattle.recorded.proofs.replay_few.Goals as goal

pub returns : goal.returns
returns g c = (c.low_half-calls.new.self, c.low_half-calls.ensures.left, rw (← c.low_half-calls.ensures.number.0) c.make_calls.ensures)

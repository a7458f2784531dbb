-- `engine::discrete::State::unplug` meets its contract. By whether somebody was queued who fits. Assumes nothing.
use Rattle.engine.specs.Code.Simulation.{plan_of}
use Rattle.engine.proofs.discrete.EventStates.{passes, frees}
use Rattle.engine.proofs.discrete.State.unplug.Goals as goal

pub returns-in-Some : goal.returns-in-Some
returns-in-Some c =
    passes (plan_of c.args.site.now) c.args.time c.args.c c.row.result c.args.self.now c.stand.new.self c.row.ensures c.stand.ensures.rest c.stand.ensures.places
    c.pop_compatible.new.self c.in-Some.v c.in-Some.ensures c.plug_in.ensures

pub returns-in_default : goal.returns-in_default
returns-in_default c =
    frees (plan_of c.args.site.now) c.args.time c.args.c c.row.result c.args.self.now c.stand.new.self c.row.ensures c.stand.ensures.rest c.stand.ensures.places
    c.pop_compatible.new.self c.in_default.ensures

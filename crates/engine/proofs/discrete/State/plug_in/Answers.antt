-- `engine::discrete::State::plug_in` meets its contract. Assumes nothing.
use Rattle.engine.specs.Code.Simulation.{plan_of}
use Rattle.engine.proofs.discrete.EventStates.{plugs}
use Rattle.engine.proofs.discrete.State.plug_in.Goals as goal

pub returns : goal.returns
returns c =
    plugs (plan_of c.args.site.now) c.args.time c.args.v c.args.c c.charge-x.result c.charge-x.ensures c.push.ensures.pending c.push.ensures.handled c.push-2.ensures.items c.stand.ensures.rest c.stand.ensures.places

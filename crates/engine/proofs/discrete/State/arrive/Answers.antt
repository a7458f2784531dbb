-- `engine::discrete::State::arrive` meets its contract. By whether the search for a charger found one. Assumes nothing.
use Rattle.std.proofs.Common.{rules, refl}
use Rattle.engine.specs.Code.Simulation.{plan_of}
use Rattle.engine.proofs.discrete.EventStates.{arrives_charging, arrives-turned}
use Rattle.engine.proofs.discrete.State.arrive.Goals as goal

pub returns-in-Some : goal.returns-in-Some
returns-in-Some c =
    λ d. arrives_charging (plan_of c.args.site.now) c.args.time c.args.v d _ c.get_vehicle.result c.args.self.now c.requires.places (λ i b h q. search rules) c.get_vehicle.ensures
    c.in-Some.c c.in-Some.ensures c.plug_in.ensures

pub returns-in-None : goal.returns-in-None
returns-in-None c =
    λ d. arrives-turned (plan_of c.args.site.now) c.args.time c.args.v d _ c.get_vehicle.result c.args.self.now c.requires.places (λ i b h q. search rules) c.get_vehicle.ensures
    c.in-None.ensures c.turn_away.ensures refl

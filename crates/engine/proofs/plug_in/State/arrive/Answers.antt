-- `engine::plug_in::State::arrive` meets its contract. By whether the search for a charger found one.
use Rattle.std.proofs.Common.{rules, refl}
use Rattle.engine.proofs.plug_in.Handling.{arrives_charging, arrives-turned}
use Rattle.engine.proofs.plug_in.State.arrive.Goals as goal

pub returns-in-Some : goal.returns-in-Some
returns-in-Some c =
    arrives_charging c.args.site.now c.args.time c.args.v _ c.get_vehicle.result c.args.self.now c.requires.fit (λ i b h q. search rules) c.get_vehicle.ensures
    c.in-Some.c c.in-Some.ensures c.start_charging.ensures

pub returns-in-None : goal.returns-in-None
returns-in-None c =
    arrives-turned c.args.site.now c.args.time c.args.v _ c.get_vehicle.result c.args.self.now c.requires.fit (λ i b h q. search rules) c.get_vehicle.ensures
    c.in-None.ensures c.requires.who c.turn_away.ensures refl

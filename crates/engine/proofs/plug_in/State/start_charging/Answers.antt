-- `engine::plug_in::State::start_charging` meets its contract.
use Rattle.std.proofs.Common.{ap, ◌∙◌, arith}
use Rattle.engine.specs.declared.site.Simulation.{Simulation}
use Rattle.engine.proofs.plug_in.Handling.{profile_of, starts}
use Rattle.engine.proofs.plug_in.State.start_charging.Goals as goal

pub plugged-state-requires-clause-profile : goal.plugged-state-requires-clause-profile
plugged-state-requires-clause-profile c =
    let small = profile_of _ c.requires.fit.within.profiles c.args.v in
    rw c.get_vehicle-car.ensures (omega arith)

pub returns : goal.returns
returns c =
    starts c.args.site.now c.args.time c.args.v c.args.c c.started.result c.plugged-state.result c.requires.fit
    (c.started.ensures ∙ rw c.get_vehicle-car.ensures)
    (c.plugged-state.ensures ∙ rw (c.battery.ensures, c.rated.ensures, c.len-index.ensures.value, c.get_vehicle-car.ensures))
    (ap (λ (m : Simulation). m.events) c.stand.ensures.rest)
    (ap (λ (m : Simulation). m.queue) c.stand.ensures.rest)
    (rw c.stand.ensures.rest at c.push.ensures.items)
    c.stand.ensures.bank

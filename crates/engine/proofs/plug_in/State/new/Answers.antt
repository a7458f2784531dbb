use Rattle.std.proofs.Common.{◌≡◌, length, arith}
use Rattle.engine.specs.Code.Simulation.{at_start}
use Rattle.engine.proofs.timestep.Begins.{fit_start}
use Rattle.engine.proofs.plug_in.State.new.Goals as goal

pub returns-clause-fit : goal.returns-clause-fit
returns-clause-fit c =
    let all : c.loop-c._c ≡ length c.args.site.now.chargers.items = omega (arith, c.len-c-end.ensures.value) in
    fit_start c.args.site.now _ (at_start c.new.ensures) (rw all at c.loop-c.invariant) c.requires.plan c.args.site.now.vehicles.few

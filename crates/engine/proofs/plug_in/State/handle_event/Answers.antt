-- `engine::plug_in::State::handle_event` meets its contract.
use Rattle.std.proofs.Common.{refl}
use Rattle.engine.proofs.plug_in.Handling.{reneges}
use Rattle.engine.proofs.plug_in.State.handle_event.Goals as goal

pub returns-in-Renege : goal.returns-in-Renege
returns-in-Renege c =
    rw c.in-Renege.is (reneges c.args.site.now c.args.event.time c.args.event.vehicle c.args.event.charger (rw c.in-Renege.is at c.requires.fit) c.renege.ensures refl)

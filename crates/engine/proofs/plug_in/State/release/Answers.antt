-- `engine::plug_in::State::release` meets its contract. By whether somebody was queued who fits.
use Rattle.engine.proofs.plug_in.Releases.{who_popped, fit_requeued, releases_passing, releases_freeing}
use Rattle.engine.proofs.plug_in.State.release.Goals as goal

pub start_charging-requires-clause-fit : goal.start_charging-requires-clause-fit
start_charging-requires-clause-fit c =
    fit_requeued c.args.site.now c.args.time c.args.c c.row.result c.args.self.now c.pop_compatible.new.self c.row.ensures c.in-Some.v c.in-Some.ensures c.requires.fit

pub start_charging-requires-clause-who : goal.start_charging-requires-clause-who
start_charging-requires-clause-who c =
    who_popped c.args.site.now c.args.time c.args.c c.row.result c.args.self.now c.pop_compatible.new.self c.row.ensures c.in-Some.v c.in-Some.ensures c.requires.fit

pub returns-in-Some : goal.returns-in-Some
returns-in-Some c =
    releases_passing c.args.site.now c.args.time c.args.c c.row.result c.args.self.now c.pop_compatible.new.self c.row.ensures c.in-Some.v c.in-Some.ensures c.requires.fit c.start_charging.ensures

pub returns-in-None : goal.returns-in-None
returns-in-None c =
    releases_freeing c.args.site.now c.args.time c.args.c c.row.result c.args.self.now c.pop_compatible.new.self c.row.ensures c.in-None.ensures c.requires.fit c.vacate.ensures.rest c.vacate.ensures.bank

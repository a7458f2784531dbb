-- `engine::timestep::spin` meets its contract.
use Rattle.std.proofs.Common.{ap, arith}
use Rattle.charger.specs.Code.Profiles.{curve_at}
use Rattle.power.specs.Code.Rounds.{Spun}
use Rattle.engine.specs.Code.Simulation.{pending}
use Rattle.engine.proofs.timestep.LoopTurn.{next_quiet, counted, fit_spun, went_on, went_freeing}
use Rattle.engine.proofs.plug_in.State.spin.Goals as goal

pub overflow_add-then : goal.overflow_add-then
overflow_add-then c =
    let next = next_quiet c.args.time c.args.last _ (pending c.args.self.now.simulation.events) c.requires.before c.requires.none c.next_time-next.ensures in
    let m = counted c.args.rising.site.now.limit (curve_at c.args.rising.site.now.curves c.args.rising.site.now.lens) c.args.self.now.bank.items c.args.time c.args.last _ _ next (ap (λ (p : Spun). p.rounds) c.charge-spun.ensures.spun) in
    omega arith

pub overflow_sub-then : goal.overflow_sub-then
overflow_sub-then c =
    let next = next_quiet c.args.time c.args.last _ (pending c.args.self.now.simulation.events) c.requires.before c.requires.none c.next_time-next.ensures in
    let m = counted c.args.rising.site.now.limit (curve_at c.args.rising.site.now.curves c.args.rising.site.now.lens) c.args.self.now.bank.items c.args.time c.args.last _ _ next (ap (λ (p : Spun). p.rounds) c.charge-spun.ensures.spun) in
    omega arith

pub free_finished-requires : goal.free_finished-requires
free_finished-requires c =
    fit_spun c.args.rising.site.now c.args.time c.args.last _ c.args.self.now c.charge-spun.new.self c.charge-spun.ensures.rest c.charge-spun.result
    c.requires.before c.requires.none c.requires.going c.next_time-next.ensures c.charge-spun.ensures.spun c.requires.fit

pub returns-then-spun : goal.returns-then-spun
returns-then-spun c =
    went_freeing c.args.rising.site.now c.args.time c.args.last _ c.args.self.now c.charge-spun.new.self c.charge-spun.ensures.rest c.charge-spun.result
    c.requires.before c.requires.none c.requires.going c.next_time-next.ensures c.charge-spun.ensures.spun c.if-spun.true c.free_finished.ensures

pub returns-else-spun : goal.returns-else-spun
returns-else-spun c =
    went_on c.args.rising.site.now c.args.time c.args.last _ c.args.self.now c.charge-spun.new.self c.charge-spun.ensures.rest c.charge-spun.result
    c.requires.before c.requires.none c.requires.going c.next_time-next.ensures c.charge-spun.ensures.spun c.if-spun.false c.requires.fit

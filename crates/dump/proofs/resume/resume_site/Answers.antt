-- `dump::resume::resume_site` meets its contract. Assumes nothing.
use Rattle.std.proofs.Common.{◌≡◌, List, ℕ, ◌+◌, ap, sym, refl, arith, ◌∙◌, Ok}
use Rattle.engine.specs.Plan.{Plan}
use Rattle.engine.specs.Discrete.{State, run}
use Rattle.engine.specs.Code.Simulation.{plan_of}
use Rattle.engine.proofs.discrete.EventLaws.{run_handled}
use Rattle.files.specs.Read.{read_plan}
use Rattle.files.proofs.call.RunLaws.{runnable, stopped_read}
use Rattle.dump.specs.Call.{continued_to}
use Rattle.dump.specs.Dump.{dump_of, handled_in, starts_with, is_dump}
use Rattle.dump.proofs.call.Laws.{dumpable, bookable, dump_shown}
use Rattle.dump.proofs.dump.Runs.{no_header, reached}
use Rattle.dump.proofs.resume.resume_site.Goals as goal

pub returns-then-dump-lt512 : goal.returns-then-dump-lt512
returns-then-dump-lt512 c = record { answer = rw (no_header _ _ c.if-dump-lt512.true); book = refl; back = tt }

pub run-state-requires : goal.run-state-requires
run-state-requires c = record { times = (runnable c.args.read.loaded).times }

pub is_dump-requires : goal.is_dump-requires
is_dump-requires c = dumpable c.args.read.loaded c.run-state.result c.u64_at.result c.run-state.ensures.same

pub go_on-requires-clause-times : goal.go_on-requires-clause-times
go_on-requires-clause-times c = (runnable c.args.read.loaded).times

-- the state is the run by the events that it has handled

pub go_on-requires-clause-reached : goal.go_on-requires-clause-reached
go_on-requires-clause-reached c =
    let p = plan_of c.args.read.site.now in
    let same = c.run-state.ensures.same in
    same ∙ sym (run_handled p c.u64_at.result) ∙ ap (run p) (ap (λ (m : State). m.handled) (sym same))

pub stop_events-requires : goal.stop_events-requires
stop_events-requires c = bookable c.args.read.loaded c.go_on.new.state (c.run-state.result.simulation.events.handled + c.from.result) c.go_on.ensures.same c.args.book.now c.requires.room

pub returns-then-not-is_dump : goal.returns-then-not-is_dump
unfolding is_dump
returns-then-not-is_dump c =
    -- what is compared is the dump at the count that the bytes name
    let compared : c.is_dump.result ≡ is_dump c.args.read.plan.now c.args.dump.now
    = c.is_dump.ensures
    ∙ ap (λ (f : List ℕ). starts_with f c.args.dump.now)
    (dump_shown c.args.read.loaded c.run-state.result c.u64_at.result c.run-state.ensures.same ∙ ap (dump_of c.args.read.plan.now) c.u64_at.ensures) in
    record { answer = rw (sym compared ∙ c.if-not-is_dump.true); book = refl; back = tt }

pub returns : goal.returns
unfolding is_dump
returns c =
    -- what is compared is the dump at the count that the bytes name
    let compared : c.is_dump.result ≡ is_dump c.args.read.plan.now c.args.dump.now
    = c.is_dump.ensures
    ∙ ap (λ (f : List ℕ). starts_with f c.args.dump.now)
    (dump_shown c.args.read.loaded c.run-state.result c.u64_at.result c.run-state.ensures.same ∙ ap (dump_of c.args.read.plan.now) c.u64_at.ensures) in
    -- where the dump is the plan's own, the state has handled as many events as the dump names
    let named : c.run-state.result.simulation.events.handled ≡ handled_in c.args.dump.now
    = ap (λ (m : State). m.handled) c.run-state.ensures.same
    ∙ ap (λ (q : Plan). (run q c.u64_at.result).handled) c.args.read.loaded.read
    ∙ ap (λ (k : ℕ). (run (read_plan c.args.read.plan.now) k).handled) c.u64_at.ensures
    ∙ reached c.args.read.plan.now c.args.read.loaded.admitted c.args.dump.now (sym compared ∙ c.if-not-is_dump.false) in
    let n : ℕ = c.run-state.result.simulation.events.handled + c.from.result in
    let reached_to : n ≡ continued_to c.args.dump.now c.args.further = omega (arith, named, c.from.ensures) in
    let stopped = stopped_read c.args.read.loaded 0 n _ reached_to _ _ _ (c.stop_events.ensures _ n c.go_on.ensures.same) in
    record { answer = rw (sym compared ∙ c.if-not-is_dump.false) (ap Ok stopped.counted); book = stopped.book; back = rw stopped.counted stopped.back }

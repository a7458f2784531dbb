-- `files::call::run_site` meets its contract. Assumes nothing.
use Rattle.std.proofs.Common.{rules}
use Rattle.files.proofs.call.RunLaws.{runnable, rising, writable, stopped_read}
use Rattle.files.proofs.call.run_site.Goals as goal

pub run-state-requires : goal.run-state-requires
run-state-requires c = record { times = (runnable c.args.read.loaded).times }

pub stop_events-requires : goal.stop_events-requires
stop_events-requires c = writable c.args.read.loaded _ _ (search rules) c.requires.room

pub run-run-requires-clause-plan : goal.run-run-requires-clause-plan
run-run-requires-clause-plan c = record { profiles = (runnable c.args.read.loaded).profiles }

pub run-run-requires-clause-times : goal.run-run-requires-clause-times
run-run-requires-clause-times c = (runnable c.args.read.loaded).times

pub invariant_of-run : goal.invariant_of-run
invariant_of-run c = record { rising = rising c.args.read.loaded }

pub stop_steps-requires : goal.stop_steps-requires
stop_steps-requires c = writable c.args.read.loaded _ _ (search rules) c.requires.room

pub returns-in-Events : goal.returns-in-Events
returns-in-Events c = rw c.in-Events.is (stopped_read c.args.read.loaded 0 c.from-allowance.result c.args.allowance c.from-allowance.ensures _ _ _ (c.stop_events.ensures _ c.from-allowance.result c.run-state.ensures.same))

pub returns-in-Steps : goal.returns-in-Steps
returns-in-Steps c = rw c.in-Steps.is (stopped_read c.args.read.loaded 1 c.from-allowance.result c.args.allowance c.from-allowance.ensures _ _ _ (c.stop_steps.ensures _ c.from-allowance.result c.run-run.ensures.done))

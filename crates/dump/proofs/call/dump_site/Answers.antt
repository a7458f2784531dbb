-- `dump::call::dump_site` meets its contract. Assumes nothing.
use Rattle.std.proofs.Common.{List, ℕ, ap, ◌∙◌}
use Rattle.files.specs.Book.{written}
use Rattle.files.proofs.call.RunLaws.{runnable, stopped_read}
use Rattle.dump.proofs.call.Laws.{dumpable, bookable, dump_shown}
use Rattle.dump.proofs.call.dump_site.Goals as goal

pub run-state-requires : goal.run-state-requires
run-state-requires c = record { times = (runnable c.args.read.loaded).times }

pub put_dump-requires-clause-state : goal.put_dump-requires-clause-state
put_dump-requires-clause-state c = dumpable c.args.read.loaded c.run-state.result c.args.allowance (rw c.from.ensures at c.run-state.ensures.same)

pub stop_events-requires : goal.stop_events-requires
stop_events-requires c = bookable c.args.read.loaded c.run-state.result c.args.allowance (rw c.from.ensures at c.run-state.ensures.same) c.args.book.now c.requires.room

pub returns-clause-stopped : goal.returns-clause-stopped
returns-clause-stopped c = stopped_read c.args.read.loaded 0 c.from.result c.args.allowance c.from.ensures _ _ _ (c.stop_events.ensures _ c.from.result c.run-state.ensures.same)

pub returns-clause-dump : goal.returns-clause-dump
returns-clause-dump c =
    c.put_dump.ensures.bytes ∙ ap (λ (f : List ℕ). written f c.args.dump.now) (dump_shown c.args.read.loaded c.run-state.result c.args.allowance (rw c.from.ensures at c.run-state.ensures.same))

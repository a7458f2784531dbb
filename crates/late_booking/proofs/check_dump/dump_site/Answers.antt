-- `late_booking::check_dump::dump_site` meets its contract. Assumes nothing.
use Rattle.std.proofs.Common.{List, ℕ, ap, ◌∙◌}
use Rattle.files.specs.Book.{written}
use Rattle.files.proofs.call.RunLaws.{runnable}
use Rattle.dump.proofs.call.Laws.{dumpable, dump_shown}
use Rattle.late_booking.proofs.check_dump.dump_site.Goals as goal

pub run-state-requires : goal.run-state-requires
run-state-requires c = record { times = (runnable c.args.read.loaded).times }

pub put_dump-requires-clause-state : goal.put_dump-requires-clause-state
put_dump-requires-clause-state c = dumpable c.args.read.loaded c.run-state.result c.args.n c.run-state.ensures.same

pub returns : goal.returns
returns c =
    c.put_dump.ensures.bytes
    ∙ ap (λ (f : List ℕ). written f c.args.dump.now) (dump_shown c.args.read.loaded c.run-state.result c.args.n c.run-state.ensures.same)

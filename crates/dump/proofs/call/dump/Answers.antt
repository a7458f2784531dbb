-- `dump::call::dump` meets its contract. Assumes nothing.
use Rattle.std.proofs.Common.{◌≡◌, sym, ◌∙◌, Ok}
use Rattle.std.proofs.lemmas.Result.{err_from_is_err_and}
use lib.ListN.{length}
use Rattle.files.proofs.check.PairLaws.{blocks_refused}
use Rattle.dump.specs.Call.{dump_answer}
use Rattle.dump.proofs.call.Dumped.{engine_some, allowance_above, book_under, dump_under, by_plan, dumped}
use Rattle.dump.proofs.call.dump.Goals as goal

pub returns-then-engine-gt0-clause-answer : goal.returns-then-engine-gt0-clause-answer
returns-then-engine-gt0-clause-answer c =
    engine_some _ _ _ _ _ c.if-engine-gt0.true

pub returns-then-allowance-gt10000000-clause-answer : goal.returns-then-allowance-gt10000000-clause-answer
returns-then-allowance-gt10000000-clause-answer c =
    allowance_above _ _ _ _ _ c.if-engine-gt0.false c.if-allowance-gt10000000.true

pub returns-then-book-lt7168-clause-answer : goal.returns-then-book-lt7168-clause-answer
returns-then-book-lt7168-clause-answer c =
    book_under _ _ _ _ _ c.if-engine-gt0.false c.if-allowance-gt10000000.false c.if-book-lt7168.true

pub returns-then-dump-lt16384-clause-answer : goal.returns-then-dump-lt16384-clause-answer
returns-then-dump-lt16384-clause-answer c =
    dump_under _ _ _ _ _ c.if-engine-gt0.false c.if-allowance-gt10000000.false c.if-book-lt7168.false c.if-dump-lt16384.true

pub returns-in_err-check_blocks-clause-answer : goal.returns-in_err-check_blocks-clause-answer
returns-in_err-check_blocks-clause-answer c =
    let e = err_from_is_err_and c.from_residual.result c.from_residual.ensures.1 in
    rw (e.1, e.2) (sym (by_plan _ _ _ _ _ c.if-engine-gt0.false c.if-allowance-gt10000000.false c.if-book-lt7168.false c.if-dump-lt16384.false _ (blocks_refused _ _ (sym c.check_blocks.ensures ∙ c.in_err-check_blocks.was))))

pub returns-in_err-read_admitted-clause-answer : goal.returns-in_err-read_admitted-clause-answer
returns-in_err-read_admitted-clause-answer c =
    let e = err_from_is_err_and c.from_residual-in_err-read_admitted.result c.from_residual-in_err-read_admitted.ensures.1 in
    rw (e.1, e.2) (sym (by_plan _ _ _ _ _ c.if-engine-gt0.false c.if-allowance-gt10000000.false c.if-book-lt7168.false c.if-dump-lt16384.false _ c.in_err-read_admitted.ensures.answer))

pub invariant_of-read : goal.invariant_of-read
invariant_of-read c = record { loaded = c.in_ok-read_admitted.ensures.answer }

pub returns : goal.returns
returns c =
    let ran = c.dump_site.ensures in
    let r = Ok c.dump_site.result in
    -- once the first four tests are passed, the plan decides
    let answer : r ≡ dump_answer c.args.plan.now c.args.engine c.args.allowance (length c.args.book.now) (length c.args.dump.now)
    = rw (ran.stopped.counted, by_plan _ _ _ _ _ c.if-engine-gt0.false c.if-allowance-gt10000000.false c.if-book-lt7168.false c.if-dump-lt16384.false (Ok tt) c.in_ok-read_admitted.ensures.answer.fine) in
    let p = dumped _ _ _ r _ _ _ _ answer ran.stopped.book (rw ran.stopped.counted ran.stopped.back) ran.dump in
    record { answer = answer; book = ran.stopped.book; dump = ran.dump; unbroken = p.unbroken; fits = p.fits; determines = p.determines; blocks = p.blocks; continues = p.continues; sessions = p.sessions; back = p.run.back; units = p.run.units; free = p.run.free; settled = p.run.settled; spots = p.run.spots; ids = p.run.ids; counts = p.run.counts; outcomes = p.run.outcomes; closed = p.run.closed; waits = p.run.waits; handled = p.run.handled; events = p.run.events; hot_day = p.run.hot_day; rating = p.run.rating; fleets = p.run.fleets; carried = p.run.carried; no_fleets = p.run.no_fleets; no_limit = p.run.no_limit }

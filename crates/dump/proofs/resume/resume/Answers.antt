-- `dump::resume::resume` meets its contract. Assumes nothing.
use Rattle.std.proofs.Common.{◌≡◌, sym, ◌∙◌, Ok}
use Rattle.std.proofs.lemmas.Result.{err_from_is_err_and}
use lib.ListN.{length}
use Rattle.files.proofs.check.PairLaws.{blocks_refused}
use Rattle.dump.specs.Call.{continued_answer}
use Rattle.dump.proofs.resume.Resumed.{further_above, book_under, by_plan, resumed}
use Rattle.dump.proofs.resume.resume.Goals as goal

pub returns-then-further-gt10000000-clause-answer : goal.returns-then-further-gt10000000-clause-answer
returns-then-further-gt10000000-clause-answer c =
    further_above _ _ _ _ c.if-further-gt10000000.true

pub returns-then-book-lt7168-clause-answer : goal.returns-then-book-lt7168-clause-answer
returns-then-book-lt7168-clause-answer c =
    book_under _ _ _ _ c.if-further-gt10000000.false c.if-book-lt7168.true

pub returns-in_err-check_blocks-clause-answer : goal.returns-in_err-check_blocks-clause-answer
returns-in_err-check_blocks-clause-answer c =
    let e = err_from_is_err_and c.from_residual.result c.from_residual.ensures.1 in
    rw (e.1, e.2) (sym (by_plan _ _ _ _ c.if-further-gt10000000.false c.if-book-lt7168.false _ (blocks_refused _ _ (sym c.check_blocks.ensures ∙ c.in_err-check_blocks.was))))

pub returns-in_err-read_admitted-clause-answer : goal.returns-in_err-read_admitted-clause-answer
returns-in_err-read_admitted-clause-answer c =
    let e = err_from_is_err_and c.from_residual-in_err-read_admitted.result c.from_residual-in_err-read_admitted.ensures.1 in
    rw (e.1, e.2) (sym (by_plan _ _ _ _ c.if-further-gt10000000.false c.if-book-lt7168.false _ c.in_err-read_admitted.ensures.answer))

pub invariant_of-read : goal.invariant_of-read
invariant_of-read c = record { loaded = c.in_ok-read_admitted.ensures.answer }

pub returns : goal.returns
returns c =
    let ran = c.resume_site.ensures in
    -- once the first two tests are passed, the plan and then the dump decide
    let answer : c.resume_site.result ≡ continued_answer c.args.plan.now c.args.dump.now c.args.further (length c.args.book.now)
    = ran.answer ∙ sym (by_plan _ _ _ _ c.if-further-gt10000000.false c.if-book-lt7168.false (Ok tt) c.in_ok-read_admitted.ensures.answer.fine) in
    let p = resumed _ _ _ c.resume_site.result _ _ answer ran.book ran.back in
    record { answer = answer; book = ran.book; unbroken = p.unbroken; reached = p.reached; parts = p.parts; ended = p.ended; more = p.more; back = p.run.back; units = p.run.units; free = p.run.free; settled = p.run.settled; spots = p.run.spots; ids = p.run.ids; counts = p.run.counts; outcomes = p.run.outcomes; closed = p.run.closed; waits = p.run.waits; handled = p.run.handled; events = p.run.events; hot_day = p.run.hot_day; rating = p.run.rating; fleets = p.run.fleets; carried = p.run.carried; no_fleets = p.run.no_fleets; no_limit = p.run.no_limit }

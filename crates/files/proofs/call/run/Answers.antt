-- `files::call::run` meets its contract. Assumes nothing.
use Rattle.std.proofs.Common.{◌≡◌, sym, ◌∙◌, length, Ok}
use Rattle.std.proofs.lemmas.Result.{err_from_is_err_and}
use Rattle.files.specs.Call.{answer_of}
use Rattle.files.proofs.check.PairLaws.{blocks_refused}
use Rattle.files.proofs.call.Demanded.{known_run, promised}
use Rattle.files.proofs.call.RunLaws.{engine_known, engine_above, allowance_above, book_under, by_plan}
use Rattle.files.proofs.call.run.Goals as goal

pub returns-in_err-engine-clause-answer : goal.returns-in_err-engine-clause-answer
returns-in_err-engine-clause-answer c =
    let e = err_from_is_err_and c.from_residual.result c.from_residual.ensures.1 in
    rw (e.1, e.2) (rw c.in_err-engine.ensures.1 (engine_above _ _ _ _ c.in_err-engine.ensures.0))

pub returns-then-allowance-gt10000000-clause-answer : goal.returns-then-allowance-gt10000000-clause-answer
returns-then-allowance-gt10000000-clause-answer c = allowance_above _ _ _ _ (engine_known _ _ c.in_ok-engine.ensures) c.if-allowance-gt10000000.true

pub returns-then-book-lt7168-clause-answer : goal.returns-then-book-lt7168-clause-answer
returns-then-book-lt7168-clause-answer c = book_under _ _ _ _ (engine_known _ _ c.in_ok-engine.ensures) c.if-allowance-gt10000000.false c.if-book-lt7168.true

pub returns-in_err-check_blocks-clause-answer : goal.returns-in_err-check_blocks-clause-answer
returns-in_err-check_blocks-clause-answer c =
    let e = err_from_is_err_and c.from_residual-in_err-check_blocks.result c.from_residual-in_err-check_blocks.ensures.1 in
    let refused = blocks_refused _ _ (sym c.check_blocks.ensures ∙ c.in_err-check_blocks.was) in
    rw (e.1, e.2) (sym (by_plan _ _ _ _ (engine_known _ _ c.in_ok-engine.ensures) c.if-allowance-gt10000000.false c.if-book-lt7168.false _ refused))

pub returns-in_err-read_admitted-clause-answer : goal.returns-in_err-read_admitted-clause-answer
returns-in_err-read_admitted-clause-answer c =
    let e = err_from_is_err_and c.from_residual-in_err-read_admitted.result c.from_residual-in_err-read_admitted.ensures.1 in
    rw (e.1, e.2) (sym (by_plan _ _ _ _ (engine_known _ _ c.in_ok-engine.ensures) c.if-allowance-gt10000000.false c.if-book-lt7168.false _ c.in_err-read_admitted.ensures.answer))

pub invariant_of-read : goal.invariant_of-read
invariant_of-read c = record { loaded = c.in_ok-read_admitted.ensures.answer }

pub returns : goal.returns
returns c =
    let done = rw c.in_ok-engine.ensures at c.run_site.ensures in
    let known = engine_known _ _ c.in_ok-engine.ensures in
    let r = Ok c.run_site.result in
    let answer : r ≡ answer_of c.args.plan.now c.args.engine c.args.allowance (length c.args.book.now)
    = rw (done.counted, by_plan _ _ _ _ known c.if-allowance-gt10000000.false c.if-book-lt7168.false (Ok tt) c.in_ok-read_admitted.ensures.answer.fine) in
    let p = promised _ _ _ r (known_run _ _ _ _ r answer) _ _ done.book (rw done.counted done.back) in
    record { answer = answer; book = done.book; back = p.back; units = p.units; free = p.free; settled = p.settled; spots = p.spots; ids = p.ids; counts = p.counts; outcomes = p.outcomes; closed = p.closed; waits = p.waits; handled = p.handled; events = p.events; steps = p.steps; shares = p.shares; hot_day = p.hot_day; rating = p.rating; fleets = p.fleets; carried = p.carried; no_fleets = p.no_fleets; no_limit = p.no_limit }

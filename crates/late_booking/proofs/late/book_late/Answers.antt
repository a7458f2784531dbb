-- `late_booking::late::book_late` meets its contract. Assumes nothing.
use Rattle.std.proofs.Common.{◌≡◌, sym, Ok, ◌∙◌}
use Rattle.std.proofs.lemmas.Result.{err_from_is_err_and}
use lib.ListN.{length}
use Rattle.files.proofs.check.PairLaws.{blocks_refused}
use Rattle.late_booking.specs.Call.{late_answer}
use Rattle.late_booking.proofs.late.Booked.{new_under, car-length, by_plan, booked}
use Rattle.late_booking.proofs.late.book_late.Goals as goal

pub returns-then-new-lt16384-clause-answer : goal.returns-then-new-lt16384-clause-answer
returns-then-new-lt16384-clause-answer c =
    new_under _ _ _ _ c.if-new-lt16384.true

pub returns-in_default-clause-answer : goal.returns-in_default-clause-answer
returns-in_default-clause-answer c =
    car-length _ _ _ _ c.if-new-lt16384.false c.in_default.ensures.1

pub returns-in_err-check_blocks-clause-answer : goal.returns-in_err-check_blocks-clause-answer
returns-in_err-check_blocks-clause-answer c =
    let e = err_from_is_err_and c.from_residual.result c.from_residual.ensures.1 in
    rw (e.1, e.2) (sym (by_plan _ _ _ _ c.if-new-lt16384.false c.in-Ok.ensures.1.long _ (blocks_refused _ _ (sym c.check_blocks.ensures ∙ c.in_err-check_blocks.was))))

pub returns-in_err-read_admitted-clause-answer : goal.returns-in_err-read_admitted-clause-answer
returns-in_err-read_admitted-clause-answer c =
    let e = err_from_is_err_and c.from_residual-in_err-read_admitted.result c.from_residual-in_err-read_admitted.ensures.1 in
    rw (e.1, e.2) (sym (by_plan _ _ _ _ c.if-new-lt16384.false c.in-Ok.ensures.1.long _ c.in_err-read_admitted.ensures.answer))

pub invariant_of-read : goal.invariant_of-read
invariant_of-read c = record { loaded = c.in_ok-read_admitted.ensures.answer }

pub returns : goal.returns
returns c =
    let ran = rw c.in-Ok.ensures.1.same at c.book_site.ensures in
    let answer : c.book_site.result ≡ late_answer c.args.plan.now c.args.dump.now c.args.car.now (length c.args.new.now)
    = ran.answer ∙ sym (by_plan _ _ _ _ c.if-new-lt16384.false c.in-Ok.ensures.1.long (Ok tt) c.in_ok-read_admitted.ensures.answer.fine) in
    let p = booked _ _ _ _ _ c.book_site.result answer ran.dump in
    record { answer = answer; dump = ran.dump; stands = p.stands; order = p.order; counts = p.counts; whole = p.whole; header = p.header; sessions = p.sessions; events = p.events; full = p.full }

-- `book_reader::totals::totals` meets its contract. Assumes nothing.
use Rattle.std.proofs.Common.{ap, Ok}
use Rattle.std.proofs.lemmas.Result.{err_from_is_err_and}
use Rattle.book_reader.proofs.reader.Told.{told_refused, told_read}
use Rattle.book_reader.proofs.totals.totals.Goals as goal

pub returns-in_err-read : goal.returns-in_err-read
returns-in_err-read c =
    let e = err_from_is_err_and c.from_residual.result c.from_residual.ensures.1 in
    rw (e.1, e.2, told_refused _ _ c.read_book.ensures.answer _ c.in_err-read.was)

pub returns : goal.returns
returns c =
    rw (told_read _ _ c.read_book.ensures.answer _ c.in_ok-read.was) (ap Ok c.sum_up.ensures)

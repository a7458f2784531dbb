-- `book_reader::reader::read_book` meets its contract. Assumes nothing.
use mathlib.Core.Path.{◌≡◌, sym, ◌∙◌}
use native.Mathlib.Omega.{arith}
use Rattle.std.specs.Prelude.{Ok}
use Rattle.std.proofs.lemmas.Result.{err_from_is_err_and}
use Rattle.files.specs.Book.{session_count}
use Rattle.files.proofs.SessionsIn.{session_count_lem}
use Rattle.book_reader.specs.Reader.{test_answer, read_book, refused}
use Rattle.book_reader.specs.Code.Read.{Room, reading}
use Rattle.book_reader.specs.declared.reader.ReadBook.{ReadBook}
use Rattle.book_reader.proofs.reader.Promises.{Promises, fine_room, read_as, refused_read, promised}
use Rattle.book_reader.proofs.reader.read_book.Goals as goal

pub returns-in_err-test_book : goal.returns-in_err-test_book
returns-in_err-test_book c =
    let e = err_from_is_err_and c.from_residual.result c.from_residual.ensures.1 in
    let answer : refused _ ≡ read_book c.args.book.now = sym (refused_read _ _ (sym c.test_book.ensures ∙ c.in_err-test_book.was)) in
    let p : Promises c.args.book.now (refused _) = promised _ (λ k. (c.type_inv.book k).fits) _ answer in
    rw (e.1, e.2) (record { answer = answer; beside = tt; writer = p.writer; comes_back = p.comes_back; unique = p.unique; runs = p.runs })

pub header_of-header-requires : goal.header_of-header-requires
header_of-header-requires c = omega (arith, (fine_room c.args.book.now (sym c.test_book.ensures ∙ c.in_ok-test_book.was)).blocks)

pub invariant_of-sessions : goal.invariant_of-sessions
invariant_of-sessions c = record { room = rw c.header_of-header.ensures (fine_room _ (sym c.test_book.ensures ∙ c.in_ok-test_book.was)) }

pub returns : goal.returns
returns c =
    let fine : test_answer c.args.book.now ≡ Ok tt = sym c.test_book.ensures ∙ c.in_ok-test_book.was in
    let room : Room c.args.book.now (session_count c.args.book.now) = fine_room _ fine in
    let read : ReadBook = record { header = c.header_of-header.result; sessions = c.read.result } in
    let answer : reading (Ok read) ≡ read_book c.args.book.now = read_as _ read fine c.header_of-header.ensures c.read.ensures in
    let p : Promises c.args.book.now (reading (Ok read)) = promised _ (λ k. (c.type_inv.book k).fits) _ answer in
    record { answer = answer; beside = (rw c.header_of-header.ensures room.few, rw (c.read.ensures, c.header_of-header.ensures) (session_count_lem c.args.book.now)); writer = p.writer; comes_back = p.comes_back; unique = p.unique; runs = p.runs }

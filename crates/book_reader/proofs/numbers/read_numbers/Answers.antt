-- `book_reader::numbers::read_numbers` meets its contract. Assumes nothing.
use Rattle.plan.specs.Answer.{check_numbers}
use mathlib.Core.Path.{◌≡◌, refl, sym, ap, ◌∙◌}
use native.Mathlib.Omega.{arith}
use Rattle.book_reader.specs.Reader.{read_book, contents_of, refused, contents}
use Rattle.files.proofs.SessionsIn.{session_count_lem}
use Rattle.book_reader.proofs.reader.Promises.{Promises, fine_room, fine_read, refused_read, same_numbers, promised}
use Rattle.book_reader.proofs.numbers.read_numbers.Goals as goal

pub header_of-h-requires : goal.header_of-h-requires
header_of-h-requires c = omega (arith, (fine_room c.args.book.now (sym c.test_book-answer.ensures ∙ c.in-Ok.is)).blocks)

pub invariant_of-read : goal.invariant_of-read
invariant_of-read c = record { room = rw c.header_of-h.ensures (fine_room _ (sym c.test_book-answer.ensures ∙ c.in-Ok.is)) }

pub returns-in-Err : goal.returns-in-Err
returns-in-Err c =
    let e : read_book c.args.book.now ≡ refused _ = refused_read _ _ (sym c.test_book-answer.ensures ∙ c.in-Err.is) in
    let p : Promises c.args.book.now (read_book c.args.book.now) = promised _ (λ k. (c.type_inv.book k).fits) _ refl in
    record { answer = c.check_numbers-numbers.ensures ∙ (ap check_numbers c.test_book-answer.ensures ∙ same_numbers _); header = rw e; sessions = rw e; writer = p.writer; comes_back = p.comes_back; unique = p.unique; runs = p.runs }

pub returns-in-Ok : goal.returns-in-Ok
returns-in-Ok c =
    let e : read_book c.args.book.now ≡ contents (contents_of c.args.book.now) = fine_read _ (sym c.test_book-answer.ensures ∙ c.in-Ok.is) in
    let p : Promises c.args.book.now (read_book c.args.book.now) = promised _ (λ k. (c.type_inv.book k).fits) _ refl in
    record { answer = c.check_numbers-numbers.ensures ∙ (ap check_numbers c.test_book-answer.ensures ∙ same_numbers _); header = c.header_numbers.ensures ∙ rw (e, session_count_lem, c.header_of-h.ensures); sessions = rw e c.put_sessions.ensures; writer = p.writer; comes_back = p.comes_back; unique = p.unique; runs = p.runs }

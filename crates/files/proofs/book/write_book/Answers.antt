-- `files::book::write_book` meets its contract. Assumes nothing.
use mathlib.Core.Path.{◌≡◌, subst, ◌∙◌}
use mathlib.Core.List.{List}
use Prim.Native.Nat.{◌≤◌}
use native.Mathlib.Omega.{arith}
use lib.ListN.{length, length-map}
use Rattle.charger.specs.Lists.{All}
use Rattle.charger.specs.Code.Vehicles.{listed}
use Rattle.files.specs.Code.Writing.{rows_of}
use Rattle.files.specs.Read.{vehicles_of, connector_rows}
use Rattle.files.specs.BookSession.{book_sessions, entry, Fits}
use Rattle.files.specs.Book.{book_bytes, written}
use Rattle.files.specs.declared.book_session.BookSession.{BookSession}
use Rattle.files.proofs.ReadBack.{book_back}
use Rattle.files.proofs.book.write_book.Goals as goal

-- the entries are what the book says of the sessions

pub returns : goal.returns
unfolding book_sessions
returns c =
    let plan = c.args.plan.now in
    let xs = book_sessions plan c.args.sessions.now in
    let vehicles : listed c.args.site.now.vehicles ≡ vehicles_of plan = c.requires.vehicles in
    let rows : rows_of plan c.args.site.now ≡ connector_rows plan = c.requires.connectors in
    let said : c.entries_of_plan-all.result.items ≡ xs = c.entries_of_plan-all.ensures.entries ∙ rw (vehicles, rows) in
    let book =
    subst (λ (ys : List BookSession). c.put_book.new.book ≡ written (book_bytes c.args.engine c.args.ended c.args.used ys) c.args.book.now) said c.put_book.ensures in
    let few : length xs ≤ 64 = rw (length-map c.args.sessions.now (entry plan (vehicles_of plan) (connector_rows plan))) c.requires.sessions in
    let fit : All Fits xs = rw (← said) c.entries_of_plan-all.ensures.fit in
    record {
      book = book;
      back = rw book (book_back c.args.engine c.args.ended c.args.used xs c.args.book.now few (omega (arith, c.ranges)) (omega (arith, c.ranges)) (omega (arith, c.ranges)) fit);
    }

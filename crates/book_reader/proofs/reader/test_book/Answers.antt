-- `book_reader::reader::test_book` meets its contract. Assumes nothing.
use mathlib.Core.Path.{◌≡◌, sym, ◌∙◌}
use mathlib.Core.Bool.{◌&&◌}
use Prim.Native.Nat.{◌+◌, ◌/◌}
use Rattle.plan.specs.Search.{every}
use Rattle.files.specs.Book.{session_count}
use Rattle.book_reader.specs.Reader.{session_ok, rest_ok}
use Rattle.book_reader.proofs.reader.Rebuilt.{some_block}
use Rattle.book_reader.proofs.reader.Promises.{by_damage, by_header, by_sessions, by_all}
use Rattle.book_reader.proofs.reader.test_book.Goals as goal

pub returns-then-damaged : goal.returns-then-damaged
returns-then-damaged c = sym (by_damage _ (sym c.damaged.ensures ∙ c.if-damaged.true))

pub header_ok-requires : goal.header_ok-requires
header_ok-requires c = some_block _ (sym c.damaged.ensures ∙ c.if-damaged.false)

pub returns-then-not-header_ok : goal.returns-then-not-header_ok
returns-then-not-header_ok c =
    sym (by_header _ (sym c.damaged.ensures ∙ c.if-damaged.false) (sym c.header_ok.ensures ∙ c.if-not-header_ok.true))

pub returns-then-sessions_ok-rests_ok : goal.returns-then-sessions_ok-rests_ok
returns-then-sessions_ok-rests_ok c =
    let tested : (c.sessions_ok.result && c.rests_ok.result) ≡ (every (session_ok c.args.book.now) 0 (session_count c.args.book.now) && every (rest_ok c.args.book.now) 0 ((session_count c.args.book.now + 4) / 5)) =
    rw (c.sessions_ok.ensures, c.rests_ok.ensures, c.u16_at.ensures.0) in
    sym (by_all _ (sym c.damaged.ensures ∙ c.if-damaged.false) (sym c.header_ok.ensures ∙ c.if-not-header_ok.false) (sym tested ∙ c.if-sessions_ok-rests_ok.true))

pub returns : goal.returns
returns c =
    let tested : (c.sessions_ok.result && c.rests_ok.result) ≡ (every (session_ok c.args.book.now) 0 (session_count c.args.book.now) && every (rest_ok c.args.book.now) 0 ((session_count c.args.book.now + 4) / 5)) =
    rw (c.sessions_ok.ensures, c.rests_ok.ensures, c.u16_at.ensures.0) in
    sym (by_sessions _ (sym c.damaged.ensures ∙ c.if-damaged.false) (sym c.header_ok.ensures ∙ c.if-not-header_ok.false) (sym tested ∙ c.if-sessions_ok-rests_ok.false))

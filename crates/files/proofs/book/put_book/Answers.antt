-- `files::book::put_book` meets its contract. Assumes nothing.
use mathlib.Core.Path.{◌≡◌, sym, ◌∙◌}
use native.Mathlib.Omega.{arith}
use lib.ListN.{length}
use lib.Seq.{sets, sets-eq}
use mathlib.Core.List.{List, ◌++◌}
use Prim.Native.Nat.{ℕ, ◌≤◌}
use native.Mathlib.Nat.{zero-add}
use Rattle.files.specs.SessionBlocks.{session_blocks}
use Rattle.files.specs.Book.{header_block, book_bytes, written}
use Rattle.files.specs.declared.book_session.BookSession.{BookSession}
use Rattle.plan.proofs.bytes.Laws.{sets_append}
use Rattle.files.proofs.ReadBack.{header-length, length_book}
use Rattle.files.proofs.book.put_book.Goals as goal

-- the book is stored in its parts, and the bytes past it stay
put-book : (s a r : List ℕ) (engine ended used : ℕ) (xs : List BookSession) → length xs ≤ 64 → 7168 ≤ length s
    → a ≡ sets s 0 (header_block (length xs) engine ended used) → r ≡ sets a 512 (session_blocks 2 xs)
    → r ≡ written (book_bytes engine ended used xs) s
unfolding written book_bytes
put-book s a r engine ended used xs k h p q =
    let header : List ℕ = header_block (length xs) engine ended used in
    let blocks : List ℕ = session_blocks 2 xs in
    let long : length (header ++ blocks) ≤ 7168 = omega (arith, length_book engine ended used xs) in
    let joined : sets s 0 (header ++ blocks) ≡ r =
    rw (sets_append s 0 header blocks, zero-add, header-length (length xs) engine ended used) (cc (p, q)) in
    sym joined ∙ rw zero-add at (sets-eq (header ++ blocks) s 0 (omega arith))

pub returns : goal.returns
returns c =
    rw c.as_slice-sessions.ensures.value at (
    put-book c.args.book.now c.put_header.new.s c.put_session_blocks.new.s c.args.engine c.args.ended c.args.used c.as_slice-sessions.result.now c.as_slice-sessions.ensures.fits c.requires
    c.put_header.ensures
    c.put_session_blocks.ensures
    )

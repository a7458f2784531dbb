-- A book that the writer can write is taken: it is neither damaged nor against the rules, and gives back what it was written for. Assumes nothing.
use mathlib.Core.Path.{◌≡◌, refl, ap, ◌∙◌, subst}
use mathlib.Core.Bool.{true, false}
use mathlib.Core.Logic.{◌⊎◌, inl, inr, ⊎_elim}
use Rattle.curve.proofs.float.Grid.{lt_or_le}
use mathlib.Core.List.{List, [], ◌∷◌, ◌++◌, append-nil, append_assoc}
use Prim.Native.Nat.{ℕ, ◌+◌, ◌-◌, ◌*◌, ◌/◌, ◌≤◌, ◌<◌, min}
use native.Mathlib.Omega.{arith}
use borrow.Author.Tests.{le-leb, eq-eqb}
use lib.ListN.{length, get_or, drop, get_or-eq_default}
use lib.Seq.{drop-nil}
use Rattle.charger.proofs.Lists.{all_at}
use Rattle.plan.specs.Bytes.{bytes, fields, pieces}
use Rattle.plan.specs.Blocks.{sealed, passes, block, whole_blocks, check_of}
use Rattle.plan.specs.Fields.{zeros}
use Rattle.plan.specs.Search.{every, holds}
use Rattle.plan.proofs.bytes.Laws.{length-pieces, Begins}
use Rattle.plan.proofs.bytes.Apart.{pieces_add, bytes_add, pieces_zero}
use Rattle.plan.proofs.blocks.Laws.{blocks_whole}
use Rattle.plan.proofs.fields.Laws.{zeros_there, zeros-behind}
use Rattle.plan.proofs.SearchLaws.{every_of}
use Rattle.files.specs.BookSession.{no_session}
use Rattle.files.specs.SessionBlocks.{slot, length-slot, session_block, session_blocks, session_of}
use Rattle.files.specs.Book.{header_block, book_bytes, written, book_offset, ReadBack}
use Rattle.files.specs.declared.book_session.BookSession.{BookSession}
use Rattle.files.proofs.session_blocks.Laws.{no_session_bytes, session_back, block_at}
use Rattle.files.proofs.ReadBack.{header-length, length_book, book_session_at, book_back}
use Rattle.book_reader.specs.Reader.{damaged, letters_ok, header_tests, session_ok, rest_ok, against_rules, Contents, contents_of, contents, test_answer, read_book}
use Rattle.book_reader.specs.Accepted.{ByRules, bytes_of}

letters_there : (engine ended used : ℕ) (xs : List BookSession) → letters_ok (book_bytes engine ended used xs) ≡ true
unfolding book_bytes header_block sealed fields bytes
letters_there engine ended used xs = refl

header-zeros : (engine ended used : ℕ) (xs : List BookSession) → zeros (book_bytes engine ended used xs) 16 508 ≡ true
unfolding book_bytes header_block sealed fields bytes
header-zeros engine ended used xs =
    let first : List ℕ = 1 ∷ 66 ∷ 1 ∷ 79 ∷ 1 ∷ 79 ∷ 1 ∷ 75 ∷ 2 ∷ length xs ∷ 1 ∷ engine ∷ 1 ∷ ended ∷ 8 ∷ used ∷ [] in
    zeros_there (fields first) (bytes 4 (check_of 1 (fields first ++ bytes 492 0)) ++ session_blocks 2 xs) 16 492 refl

module _ (c : Contents) (w : ByRules c) where
  abbrev b : List ℕ
  b = bytes_of c

  abbrev xs : List BookSession
  xs = c.sessions

  abbrev m : ℕ
  m = (length xs + 4) / 5

  -- with nothing behind it
  alone : written b [] ≡ b
  unfolding written
  alone = rw (drop-nil, append-nil)

  back : ReadBack c.engine c.ended c.used xs b
  back =
      subst (ReadBack c.engine c.ended c.used xs) alone
      (book_back c.engine c.ended c.used xs [] w.few (omega (arith, w.engine)) (omega (arith, w.ended)) w.used w.widths)

  long : length b ≡ 512 * (1 + m)
  long = length_book c.engine c.ended c.used xs ∙ omega arith

  not_damaged : damaged b ≡ false
  unfolding damaged
  not_damaged =
      let size : length b / 512 ≡ 1 + m = omega (arith, long) in
      let whole : whole_blocks (length b) 14 ≡ true = rw long (blocks_whole (1 + m) 14 (omega arith) (omega (arith, w.few))) in
      let pass : every (λ k. passes (k + 1) (block b k)) 0 (1 + m) ≡ true = every_of _ 0 (1 + m) (λ k l h. back.checks k (omega arith)) in
      rw (whole, size, pass)

  header-holds : holds (header_tests b) ≡ true
  header-holds =
      let size : length b / 512 ≡ 1 + m = omega (arith, long) in
      rw (
        letters_there c.engine c.ended c.used xs,
        back.count,
        le-leb (length xs) 64 w.few,
        back.engine_byte,
        le-leb c.engine 1 w.engine,
        back.ended_byte,
        le-leb c.ended 1 w.ended,
        header-zeros c.engine c.ended c.used xs,
        size,
      ) (eq-eqb (1 + m) (1 + m) refl)

  -- ---- the sessions

  starts : (k : ℕ) → k < length xs → Begins (drop (book_offset k) b) (slot xs k)
  unfolding Begins
  starts k h =
      let s = book_session_at c.engine c.ended c.used xs [] k h in
      (s.0, rw append-nil at s.1)

  session_there : (k : ℕ) → k < length xs → session_ok b k ≡ true
  unfolding session_ok slot Begins
  session_there k h =
      let x : BookSession = get_or xs k no_session in
      let s = starts k h in
      let read : session_of (drop (book_offset k) b) ≡ x = rw s.1 (session_back x s.0 (all_at xs k no_session h w.widths)) in
      rw (read, all_at xs k no_session h w.fields)

  -- ---- what follows the last session of a block

  empty-slot : (k : ℕ) → length xs ≤ k → slot xs k ≡ bytes 96 0
  unfolding slot
  empty-slot k h = rw (get_or-eq_default xs no_session {n = k} h) no_session_bytes

  rest_zeros : (j t : ℕ) (r : List ℕ) → t ≤ 5 → (length xs ≤ 5 * j + t) ⊎ (t ≡ 5) → zeros (session_block 2 xs j ++ r) (96 * t) 508 ≡ true
  unfolding session_block sealed
  rest_zeros j t r h past =
      let f = slot xs in
      let sessions : List ℕ = pieces f (5 * j) t in
      let zero-bytes : List ℕ = bytes (508 - 96 * t) 0 in
      let five : 5 ≡ t + (5 - t) = omega arith in
      let width : 508 - 96 * t ≡ 96 * (5 - t) + 28 = omega arith in
      let stop : 96 * t + (508 - 96 * t) ≡ 508 = omega arith in
      let empty : pieces f (5 * j + t) (5 - t) ≡ bytes (96 * (5 - t)) 0 = pieces_zero f 96 (5 * j + t) (5 - t) (λ i l. empty-slot (5 * j + t + i) (⊎_elim (λ (p : length xs ≤ 5 * j + t). omega arith) (λ (p : t ≡ 5). absurd (omega arith)) past)) in
      let all : pieces f (5 * j) 5 ≡ sessions ++ bytes (96 * (5 - t)) 0 = ap (pieces f (5 * j)) five ∙ rw (pieces_add f (5 * j) t (5 - t), empty) in
      let body : pieces f (5 * j) 5 ++ bytes 28 0 ≡ sessions ++ zero-bytes = rw (all, append_assoc, width, bytes_add (96 * (5 - t)) 28) in
      let check : List ℕ = bytes 4 (check_of (2 + j) (sessions ++ zero-bytes)) in
      rw (body, append_assoc (sessions ++ zero-bytes) check r, append_assoc sessions zero-bytes (check ++ r))
      (rw stop at (zeros_there sessions (check ++ r) (96 * t) (508 - 96 * t) (length-pieces f 96 (length-slot xs) (5 * j) t)))

  block_starts : (j : ℕ) → j < m → Begins (drop (512 + 512 * j) b) (session_block 2 xs j)
  unfolding book_bytes Begins
  block_starts j h =
      let s = block_at (header_block (length xs) c.engine c.ended c.used) 512 (header-length (length xs) c.engine c.ended c.used) 2 xs [] j h in
      (s.0, rw append-nil at s.1)

  rest_there : (j : ℕ) → j < m → rest_ok b j ≡ true
  unfolding rest_ok Begins
  rest_there j h =
      let s = block_starts j h in
      let t : ℕ = min (length xs - 5 * j) 5 in
      let past : (length xs ≤ 5 * j + t) ⊎ (t ≡ 5) = ⊎_elim (λ (p : length xs < 5 * j + 5). inl (omega arith)) (λ (p : 5 * j + 5 ≤ length xs). inr (omega arith)) (lt_or_le (length xs) (5 * j + 5)) in
      rw back.count (zeros-behind b (512 + 512 * j) (96 * t) 508 (rw s.1 (rest_zeros j t s.0 (omega arith) past)))

  not_against : against_rules b ≡ false
  unfolding against_rules
  not_against =
      let sessions : every (session_ok b) 0 (length xs) ≡ true = every_of (session_ok b) 0 (length xs) (λ k l h. session_there k (omega arith)) in
      let rests : every (rest_ok b) 0 m ≡ true = every_of (rest_ok b) 0 m (λ j l h. rest_there j (omega arith)) in
      rw (header-holds, back.count, sessions, rests)

  same_contents : contents_of b ≡ c
  same_contents = λ i. record { engine = back.engine_byte i; ended = back.ended_byte i; used = back.used_units i; sessions = back.sessions i }

  pub taken : read_book b ≡ contents c
  unfolding read_book test_answer
  taken = rw (not_damaged, not_against, same_contents)

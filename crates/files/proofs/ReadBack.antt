-- A written book is read back: its sessions, and nothing else. Assumes nothing.
use mathlib.Core.Path.{◌≡◌, refl}
use mathlib.Core.Bool.{true}
use mathlib.Core.List.{List, [], ◌∷◌, ◌++◌, append_assoc}
use Prim.Native.Nat.{ℕ, zero, suc, ◌+◌, ◌*◌, ◌/◌, ◌^◌, ◌≤◌, ◌<◌}
use native.Mathlib.Omega.{arith}
use lib.ListN.{length, take, drop, length-append}
use lib.Seq.{take_at}
use Rattle.charger.specs.Lists.{All}
use Rattle.plan.specs.Bytes.{le_at, bytes, fields}
use Rattle.plan.specs.Blocks.{sealed, passes, block}
use Rattle.files.specs.BookSession.{Fits}
use Rattle.files.specs.SessionBlocks.{slot, session_block, session_blocks, sessions_from}
use Rattle.files.specs.Book.{header_block, book_bytes, session_count, book_offset, sessions_in, ReadBack, written}
use Rattle.files.specs.declared.book_session.BookSession.{BookSession}
use Rattle.plan.proofs.bytes.Laws.{read_back, next_place, Begins}
use Rattle.plan.proofs.blocks.Laws.{sealed-passes, length-sealed}
use Rattle.files.proofs.session_blocks.Laws.{length_session_block, length_session_blocks, session_block-passes, block_at, session_at_lem, sessions_back}

pub header-length : (count engine ended used : ℕ) → length (header_block count engine ended used) ≡ 512
unfolding header_block fields bytes
header-length count engine ended used = length-sealed 1 _ refl

pub length_book : (engine ended used : ℕ) (xs : List BookSession) → length (book_bytes engine ended used xs) ≡ 512 + 512 * ((length xs + 4) / 5)
unfolding book_bytes
length_book engine ended used xs = rw (length-append, header-length (length xs) engine ended used, length_session_blocks 2 xs)

-- a book, and what follows it in a buffer
module _ (engine ended used : ℕ) (xs : List BookSession) (rest : List ℕ) where
  -- its sessions follow the header
  parts : book_bytes engine ended used xs ++ rest ≡ header_block (length xs) engine ended used ++ (session_blocks 2 xs ++ rest)
  unfolding book_bytes
  parts = rw append_assoc

  pub book_session_at : (k : ℕ) → k < length xs → Begins (drop (book_offset k) (book_bytes engine ended used xs ++ rest)) (slot xs k)
  book_session_at k h = rw parts (session_at_lem (header_block (length xs) engine ended used) 512 (header-length (length xs) engine ended used) 2 xs rest k h)

  book_sessions_back : All Fits xs → sessions_from (book_bytes engine ended used xs ++ rest) 512 0 (length xs) ≡ xs
  book_sessions_back fits =
      rw parts (sessions_back (header_block (length xs) engine ended used) 512 (header-length (length xs) engine ended used) 2 xs rest fits 0 (length xs) (omega arith))

  letters_back : take 4 (book_bytes engine ended used xs ++ rest) ≡ 66 ∷ 79 ∷ 79 ∷ 75 ∷ []
  unfolding book_bytes header_block sealed fields bytes
  letters_back = refl

  count_back : length xs < 256 ^ 2 → session_count (book_bytes engine ended used xs ++ rest) ≡ length xs
  unfolding book_bytes header_block sealed fields bytes le_at
  count_back h = read_back 2 (length xs) h

  engine_back : engine < 256 ^ 1 → le_at 1 (book_bytes engine ended used xs ++ rest) 6 ≡ engine
  unfolding book_bytes header_block sealed fields bytes le_at
  engine_back h = read_back 1 engine h

  ended_back : ended < 256 ^ 1 → le_at 1 (book_bytes engine ended used xs ++ rest) 7 ≡ ended
  unfolding book_bytes header_block sealed fields bytes le_at
  ended_back h = read_back 1 ended h

  used_back : used < 256 ^ 8 → le_at 8 (book_bytes engine ended used xs ++ rest) 8 ≡ used
  unfolding book_bytes header_block sealed fields bytes le_at
  used_back h = read_back 8 used h

-- EACH BLOCK OF A BOOK PASSES ITS CHECK, by the lemma that serves every kind of file
header-passes : (count engine ended used : ℕ) → passes 1 (header_block count engine ended used) ≡ true
unfolding header_block fields bytes
header-passes count engine ended used = sealed-passes 1 _ refl

in_header : (engine ended used : ℕ) (xs : List BookSession) (rest : List ℕ) → take 512 (book_bytes engine ended used xs ++ rest) ≡ header_block (length xs) engine ended used
unfolding book_bytes
in_header engine ended used xs rest = rw append_assoc (take_at _ _ 512 (header-length (length xs) engine ended used))

pub book_passes : (engine ended used : ℕ) (xs : List BookSession) (buffer : List ℕ) (k : ℕ) → k < 1 + (length xs + 4) / 5
    → passes (k + 1) (block (written (book_bytes engine ended used xs) buffer) k) ≡ true
unfolding written block Begins
book_passes engine ended used xs buffer zero h =
    rw (in_header engine ended used xs (drop (length (book_bytes engine ended used xs)) buffer)) (header-passes (length xs) engine ended used)
book_passes engine ended used xs buffer (suc j) h =
    let header : List ℕ = header_block (length xs) engine ended used in
    let rest : List ℕ = drop (length (book_bytes engine ended used xs)) buffer in
    let in_block = block_at header 512 (header-length (length xs) engine ended used) 2 xs rest j (omega arith) in
    let e : suc j + 1 ≡ 2 + j = omega arith in
    rw (e, next_place, parts engine ended used xs rest, in_block.1, take_at (session_block 2 xs j) in_block.0 512 (length_session_block 2 xs j)) (session_block-passes 2 xs j)

pub count-written : (engine ended used : ℕ) (xs : List BookSession) (buffer : List ℕ) → length xs ≤ 64 → session_count (written (book_bytes engine ended used xs) buffer) ≡ length xs
unfolding written
count-written engine ended used xs buffer h = count_back engine ended used xs (drop (length (book_bytes engine ended used xs)) buffer) (omega arith)

-- THE BOOK READ BACK, of any buffer that it was written into
pub book_back : (engine ended used : ℕ) (xs : List BookSession) (buffer : List ℕ) → length xs ≤ 64 → engine < 2 ^ 8 → ended < 2 ^ 8 → used < 2 ^ 64
    → All Fits xs → ReadBack engine ended used xs (written (book_bytes engine ended used xs) buffer)
unfolding sessions_in written
book_back engine ended used xs buffer n e d u fits =
    let rest : List ℕ = drop (length (book_bytes engine ended used xs)) buffer in
    let count : session_count (book_bytes engine ended used xs ++ rest) ≡ length xs = count_back engine ended used xs rest (omega arith) in
    record {
      letters = letters_back engine ended used xs rest;
      count = count;
      engine_byte = engine_back engine ended used xs rest (omega arith);
      ended_byte = ended_back engine ended used xs rest (omega arith);
      used_units = used_back engine ended used xs rest (omega arith);
      sessions = rw count (book_sessions_back engine ended used xs rest fits);
      whole = fits;
      checks = book_passes engine ended used xs buffer;
    }

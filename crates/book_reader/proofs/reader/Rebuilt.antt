-- A book that is neither damaged nor against the rules is the one that the writer writes for what it gives back. Assumes nothing.
use mathlib.Core.Path.{◌≡◌, sym, ◌∙◌}
use mathlib.Core.Bool.{true, false}
use mathlib.Core.Logic.{⊎_elim}
use mathlib.Core.List.{List, [], ◌∷◌, ◌++◌}
use Prim.Native.Nat.{ℕ, suc, ◌+◌, ◌*◌, ◌/◌, ◌≤◌, ◌<◌}
use native.Mathlib.Nat.{zero-add}
use native.Mathlib.Omega.{arith}
use borrow.Author.Tests.{not-false, leb-true, eqb-true}
use lib.ListN.{length, get_or, take, drop, length-take, length-drop, get_or-eq_default}
use lib.Seq.{take-take, take-add, drop-drop, get_or-take, get_or-drop}
use Rattle.curve.proofs.float.Grid.{lt_or_le}
use Rattle.charger.proofs.Lists.{and_true}
use Rattle.plan.specs.Bytes.{le_at, bytes, pieces}
use Rattle.plan.specs.Blocks.{sealed, passes, block, whole_blocks}
use Rattle.plan.specs.Search.{every, holds}
use Rattle.plan.proofs.bytes.Laws.{le_at_lt}
use Rattle.plan.proofs.bytes.Apart.{pieces_apart, fields_apart, pieces_same}
use Rattle.plan.proofs.blocks.Laws.{whole_blocks_lem, passes-sealed, blocks_of}
use Rattle.plan.proofs.fields.Laws.{zeros_hold, zeros-part}
use Rattle.plan.proofs.SearchLaws.{every_at, holds_at, all_each}
use Rattle.files.specs.BookSession.{Fits}
use Rattle.files.specs.SessionBlocks.{session_bytes, slot, session_block, session_blocks, session_of}
use Rattle.files.specs.Book.{header_block, book_bytes, session_count, book_offset, sessions_in}
use Rattle.files.specs.declared.book_session.BookSession.{BookSession}
use Rattle.book_reader.specs.SessionRules.{session_tests}
use Rattle.book_reader.specs.Reader.{damaged, header_tests, session_ok, rest_ok, against_rules, contents_of}
use Rattle.book_reader.specs.Accepted.{ByRules, bytes_of}
use Rattle.files.proofs.SessionsIn.{session_in, sessions_each, session_count_lem, in_book, past_last}
use Rattle.files.proofs.session_blocks.Laws.{no_session_bytes}

-- a session's bytes are those of the session that is read there
session_rebuilt : (s : List ℕ) → ((k : ℕ) → get_or s k 0 < 256) → 96 ≤ length s → take 96 s ≡ session_bytes (session_of s)
unfolding session_bytes session_of
session_rebuilt s byte h = sym (fields_apart (4 ∷ 4 ∷ 4 ∷ 1 ∷ 1 ∷ 2 ∷ 8 ∷ 8 ∷ 8 ∷ 8 ∷ 8 ∷ 8 ∷ 8 ∷ 8 ∷ 8 ∷ 8 ∷ []) s 0 byte h)

-- a session that is read fits its widths
session_fits : (s : List ℕ) → ((k : ℕ) → get_or s k 0 < 256) → Fits (session_of s)
unfolding session_of
session_fits s byte =
    record {
      vehicle = omega (arith, le_at_lt 4 s 0 byte);
      profile = omega (arith, le_at_lt 4 s 4 byte);
      charger = omega (arith, le_at_lt 4 s 8 byte);
      connector = omega (arith, le_at_lt 1 s 12 byte);
      outcome = omega (arith, le_at_lt 1 s 13 byte);
      fleet = omega (arith, le_at_lt 2 s 14 byte);
      arrival = omega (arith, le_at_lt 8 s 16 byte);
      plugin = omega (arith, le_at_lt 8 s 24 byte);
      unplug = omega (arith, le_at_lt 8 s 32 byte);
      wait = omega (arith, le_at_lt 8 s 40 byte);
      duration = omega (arith, le_at_lt 8 s 48 byte);
      idle = omega (arith, le_at_lt 8 s 56 byte);
      peak = omega (arith, le_at_lt 8 s 64 byte);
      energy = omega (arith, le_at_lt 8 s 72 byte);
      start = omega (arith, le_at_lt 8 s 80 byte);
      end = omega (arith, le_at_lt 8 s 88 byte);
    }

bytes-behind : (b : List ℕ) (at : ℕ) → ((k : ℕ) → get_or b k 0 < 256) → (k : ℕ) → get_or (drop at b) k 0 < 256
bytes-behind b at byte k = rw get_or-drop (byte (at + k))

-- ---- a book that is not damaged and whose header is right

module _ (b : List ℕ) (intact : damaged b ≡ false) where
  blocks_pass : (whole_blocks (length b) 14 ≡ true) × (every (λ k. passes (k + 1) (block b k)) 0 (length b / 512) ≡ true)
  unfolding damaged
  blocks_pass = and_true _ _ (not-false _ intact)

  pub some_block : 512 ≤ length b
  some_block = let w = whole_blocks_lem (length b) 14 blocks_pass.0 in omega arith

  module _ (header : holds (header_tests b) ≡ true) where
    header_test : (i : ℕ) → get_or (header_tests b) i true ≡ true
    header_test = holds_at (header_tests b) header

    pub few : session_count b ≤ 64
    few = leb-true (session_count b) 64 (header_test 1)

    pub long : length b ≡ 512 * suc ((session_count b + 4) / 5)
    long =
        let w = whole_blocks_lem (length b) 14 blocks_pass.0 in
        let blocks : length b / 512 ≡ 1 + (session_count b + 4) / 5 = eqb-true _ _ (header_test 5) in
        omega arith

-- ---- and that follows the rules

module _ (b : List ℕ) (byte : (k : ℕ) → get_or b k 0 < 256) (intact : damaged b ≡ false) (ruled : against_rules b ≡ false) where
  abbrev n : ℕ
  n = session_count b

  abbrev xs : List BookSession
  xs = sessions_in b

  -- how many blocks of sessions there are
  abbrev m : ℕ
  m = (n + 4) / 5

  rules : ((holds (header_tests b) ≡ true) × (every (session_ok b) 0 n ≡ true)) × (every (rest_ok b) 0 m ≡ true)
  unfolding against_rules
  rules =
      let two = and_true _ _ (not-false _ ruled) in
      (and_true _ _ two.0, two.1)

  abbrev size : length b ≡ 512 * suc m
  size = long b intact rules.0.0

  abbrev test : (i : ℕ) → get_or (header_tests b) i true ≡ true
  test = header_test b intact rules.0.0

  -- each block is sealed
  sealed_at : (k : ℕ) → k < suc m → block b k ≡ sealed (k + 1) (take 508 (drop (512 * k) b))
  unfolding block
  sealed_at k h =
      let body = take 512 (drop (512 * k) b) in
      let whole : length body ≡ 512 = simp (length-take, length-drop) (omega (arith, size)) in
      let all : (i : ℕ) → get_or body i 0 < 256 = λ i. below i in
      let pass = every_at (λ j. passes (j + 1) (take 512 (drop (512 * j) b))) 0 (length b / 512) (blocks_pass b intact).1 k (omega arith) (omega (arith, size)) in
      passes-sealed (k + 1) body whole all pass ∙ rw (take-take 508 512 (drop (512 * k) b) (omega arith))
    where
      below : (i : ℕ) → get_or (take 512 (drop (512 * k) b)) i 0 < 256
      below i =
          ⊎_elim
          (λ (l : i < 512). rw (get_or-take 512 (drop (512 * k) b) i 0 l, get_or-drop) (byte (512 * k + i)))
          (λ (l : 512 ≤ i). rw (get_or-eq_default (take 512 (drop (512 * k) b)) 0 {n = i} (simp length-take (omega arith))) (omega arith))
          (lt_or_le i 512)

  -- ---- the header

  first_letters : ((le_at 1 b 0 ≡ 66) × (le_at 1 b 1 ≡ 79)) × ((le_at 1 b 2 ≡ 79) × (le_at 1 b 3 ≡ 75))
  unfolding le_at
  first_letters =
      let abc = and_true _ _ (test 0) in
      let ab = and_true _ _ abc.0 in
      let a = and_true _ _ ab.0 in
      ((omega (arith, eqb-true (get_or b 0 0) 66 a.0), omega (arith, eqb-true (get_or b 1 0) 79 a.1)), (omega (arith, eqb-true (get_or b 2 0) 79 ab.1), omega (arith, eqb-true (get_or b 3 0) 75 abc.1)))

  header_rebuilt : block b 0 ≡ header_block n (le_at 1 b 6) (le_at 1 b 7) (le_at 8 b 8)
  unfolding header_block
  header_rebuilt =
      let apart = fields_apart (1 ∷ 1 ∷ 1 ∷ 1 ∷ 2 ∷ 1 ∷ 1 ∷ 8 ∷ 492 ∷ []) b 0 byte (omega (arith, size)) in
      let l = first_letters in
      sealed_at 0 (omega arith) ∙ rw (← apart, l.0.0, l.0.1, l.1.0, l.1.1, zeros_hold b 16 492 (test 4))

  -- ---- the sessions

  abbrev count : length xs ≡ n
  count = session_count_lem b

  session_test : (k : ℕ) → k < n → holds (session_tests (session_in b k)) ≡ true
  unfolding session_ok
  session_test k h = every_at (session_ok b) 0 n rules.0.1 k (omega arith) (omega arith)

  -- a session's place in the book, and a place past the last session
  slot_taken : (k : ℕ) → k < n → take 96 (drop (book_offset k) b) ≡ slot xs k
  unfolding slot
  slot_taken k h =
      session_rebuilt (drop (book_offset k) b) (bytes-behind b (book_offset k) byte) (simp length-drop (omega (arith, size))) ∙ rw (in_book b k h)

  slot-empty : (j i : ℕ) → j < m → i < 5 → n ≤ 5 * j + i → take 96 (drop (512 + 512 * j + 96 * i) b) ≡ slot xs (5 * j + i)
  unfolding slot rest_ok
  slot-empty j i h l past =
      let rest = every_at (rest_ok b) 0 m rules.1 j (omega arith) (omega arith) in
      zeros-part b _ _ (512 + 512 * j + 96 * i) 96 rest byte (omega arith) (omega arith) (omega (arith, size))
      ∙ rw (past_last b (5 * j + i) past) (sym no_session_bytes)

  slot_rebuilt : (j i : ℕ) → j < m → i < 5 → take 96 (drop (512 + 512 * j + 96 * i) b) ≡ slot xs (5 * j + i)
  slot_rebuilt j i h l =
      ⊎_elim
      (λ (k : 5 * j + i < n).
      let e : 512 + 512 * j + 96 * i ≡ book_offset (5 * j + i) = omega arith in
      rw e (slot_taken (5 * j + i) k))
      (λ (k : n ≤ 5 * j + i). slot-empty j i h l k)
      (lt_or_le (5 * j + i) n)

  block_rebuilt : (j : ℕ) → j < m → block b (1 + j) ≡ session_block 2 xs j
  unfolding session_block rest_ok
  block_rebuilt j h =
      let at : ℕ = 512 + 512 * j in
      let rest = every_at (rest_ok b) 0 m rules.1 j (omega arith) (omega arith) in
      let start : 512 * (1 + j) ≡ 512 + 512 * j = omega arith in
      let place : 1 + j + 1 ≡ 2 + j = omega arith in
      let body : take 480 (drop at b) ≡ pieces (slot xs) (5 * j) 5 = pieces_apart (slot xs) 96 b at (5 * j) 5 (omega (arith, size)) (λ i l. slot_rebuilt j i h l) in
      let tail : take 28 (drop (at + 480) b) ≡ bytes 28 0 = zeros-part b _ _ (at + 480) 28 rest byte (omega arith) (omega arith) (omega (arith, size)) in
      let parts : take 508 (drop at b) ≡ pieces (slot xs) (5 * j) 5 ++ bytes 28 0 = take-add 480 28 (drop at b) ∙ rw (drop-drop, body, tail) in
      sealed_at (1 + j) (omega arith) ∙ rw (place, start, parts)

  -- ---- the whole book

  pub rebuilt : b ≡ bytes_of (contents_of b)
  unfolding book_bytes session_blocks pieces
  rebuilt =
      blocks_of b (suc m) size
      ∙ rw (header_rebuilt, count, pieces_same (block b) (session_block 2 xs) (0 + 1) 0 m (λ i h. rw (zero-add i) (block_rebuilt i h)))

  pub by_rules : ByRules (contents_of b)
  by_rules =
      record {
        engine = leb-true (le_at 1 b 6) 1 (test 2);
        ended = leb-true (le_at 1 b 7) 1 (test 3);
        used = omega (arith, le_at_lt 8 b 8 byte);
        few = omega (arith, count, few b intact rules.0.0);
        widths = rw sessions_each (all_each (session_in b) 0 n (λ i l h. session_fits (drop (book_offset i) b) (bytes-behind b (book_offset i) byte)));
        fields = rw sessions_each (all_each (session_in b) 0 n (λ i l h. session_test i (omega arith)));
      }

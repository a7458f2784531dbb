-- Laws of blocks of sessions: as they are stored, and as they are read back from any place of a file on. Assumes nothing.
use mathlib.Core.Path.{◌≡◌, refl, sym}
use mathlib.Core.Bool.{true}
use mathlib.Core.List.{List, ◌++◌, append_assoc}
use Prim.Native.Nat.{ℕ, zero, suc, ◌+◌, ◌*◌, ◌/◌, ◌%◌, ◌<◌}
use native.Mathlib.Nat.{zero-add}
use native.Mathlib.Omega.{arith}
use Rattle.std.proofs.Common.{lit≤}
use lib.ListN.{length, get_or, drop, drop_of_length-le}
use lib.Seq.{drop-cons, drop_at, drop-drop}
use Rattle.charger.specs.Lists.{All}
use Rattle.charger.proofs.Lists.{all_at}
use Rattle.plan.specs.Bytes.{le_at, bytes, fields, pieces}
use Rattle.plan.specs.Blocks.{check_of, sealed, passes}
use Rattle.files.specs.BookSession.{no_session, Fits}
use Rattle.files.specs.SessionBlocks.{session_bytes, slot, length-slot, session_block, session_blocks, session_offset, session_of, sessions_from}
use Rattle.files.specs.declared.book_session.BookSession.{BookSession}
use Rattle.plan.proofs.bytes.Laws.{length-pieces, read_back, Begins, piece_at}
use Rattle.plan.proofs.records.Laws.{length_block, block_passes}

-- zero bytes stand where there is none
pub no_session_bytes : session_bytes no_session ≡ bytes 96 0
unfolding session_bytes no_session fields bytes
no_session_bytes = refl

-- ---- the blocks of sessions of a file, the first of them at a place

module _ (place : ℕ) (xs : List BookSession) where
  pub length_session_block : (j : ℕ) → length (session_block place xs j) ≡ 512
  unfolding session_block
  length_session_block = length_block (slot xs) 96 (length-slot xs) 5 place (lit≤ tt)

  pub length_session_blocks : length (session_blocks place xs) ≡ 512 * ((length xs + 4) / 5)
  unfolding session_blocks
  length_session_blocks = length-pieces (session_block place xs) 512 length_session_block 0 ((length xs + 4) / 5)

  pub session_block-passes : (j : ℕ) → passes (place + j) (session_block place xs j) ≡ true
  unfolding session_block
  session_block-passes = block_passes (slot xs) 96 (length-slot xs) 5 place (lit≤ tt)

-- a session that is written is read back
pub session_back : (x : BookSession) (r : List ℕ) → Fits x → session_of (session_bytes x ++ r) ≡ x
unfolding session_of session_bytes fields bytes le_at
session_back x r h = λ i. record {
  vehicle_id = read_back 4 x.vehicle_id (omega (arith, h.vehicle)) i;
  profile_id = read_back 4 x.profile_id (omega (arith, h.profile)) i;
  charger_id = read_back 4 x.charger_id (omega (arith, h.charger)) i;
  connector = read_back 1 x.connector (omega (arith, h.connector)) i;
  outcome = read_back 1 x.outcome (omega (arith, h.outcome)) i;
  fleet = read_back 2 x.fleet (omega (arith, h.fleet)) i;
  arrival = read_back 8 x.arrival (omega (arith, h.arrival)) i;
  plugin = read_back 8 x.plugin (omega (arith, h.plugin)) i;
  unplug = read_back 8 x.unplug (omega (arith, h.unplug)) i;
  wait = read_back 8 x.wait (omega (arith, h.wait)) i;
  duration = read_back 8 x.duration (omega (arith, h.duration)) i;
  idle = read_back 8 x.idle (omega (arith, h.idle)) i;
  peak = read_back 8 x.peak (omega (arith, h.peak)) i;
  energy = read_back 8 x.energy (omega (arith, h.energy)) i;
  start = read_back 8 x.start (omega (arith, h.start)) i;
  end = read_back 8 x.end (omega (arith, h.end)) i;
}

-- a file in which blocks of sessions follow its first bytes
module _ (head : List ℕ) (start : ℕ) (long : length head ≡ start) (place : ℕ) (xs : List BookSession) (rest : List ℕ) where
  -- the j-th of the blocks
  pub block_at : (j : ℕ) → j < (length xs + 4) / 5 → Begins (drop (start + 512 * j) (head ++ (session_blocks place xs ++ rest))) (session_block place xs j)
  unfolding session_blocks Begins
  block_at j h =
      let blocks : List ℕ = pieces (session_block place xs) 0 ((length xs + 4) / 5) in
      let found = piece_at (session_block place xs) 512 (length_session_block place xs) 0 ((length xs + 4) / 5) j rest h in
      let past : drop start (head ++ (blocks ++ rest)) ≡ blocks ++ rest = drop_at head (blocks ++ rest) start long in
      (found.0, rw (← drop-drop, past) (rw zero-add at found.1))

  -- the k-th of the sessions
  pub session_at_lem : (k : ℕ) → k < length xs → Begins (drop (session_offset start k) (head ++ (session_blocks place xs ++ rest))) (slot xs k)
  unfolding session_block sealed Begins
  session_at_lem k h =
      let j : ℕ = k / 5 in
      let in_block = block_at j (omega arith) in
      let check : List ℕ = bytes 4 (check_of (place + j) (pieces (slot xs) (5 * j) 5 ++ bytes 28 0)) in
      let found = piece_at (slot xs) 96 (length-slot xs) (5 * j) 5 (k % 5) (bytes 28 0 ++ (check ++ in_block.0)) (omega arith) in
      let e : 5 * j + k % 5 ≡ k = omega arith in
      (found.0, rw (← drop-drop, in_block.1, append_assoc, append_assoc) (rw e at found.1))

  -- THE SESSIONS READ BACK
  pub sessions_back : All Fits xs → (k m : ℕ) → k + m ≡ length xs → sessions_from (head ++ (session_blocks place xs ++ rest)) start k m ≡ drop k xs
  unfolding sessions_from slot Begins
  sessions_back fits k zero e = sym (drop_of_length-le xs {i = k} (omega arith))
  sessions_back fits k (suc m) e =
      let s = session_at_lem k (omega arith) in
      rw (s.1, session_back (get_or xs k no_session) s.0 (all_at xs k no_session (omega arith) fits), sessions_back fits (suc k) m (omega arith)) (sym (drop-cons xs k no_session (omega arith)))

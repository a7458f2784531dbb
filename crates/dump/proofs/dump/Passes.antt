-- EACH BLOCK OF A DUMP PASSES ITS CHECK, by the lemma that serves every kind of file. Assumes nothing.
use mathlib.Core.Path.{◌≡◌, refl}
use mathlib.Core.Bool.{Bool, true, false}
use mathlib.Core.List.{List, ◌++◌, append_assoc}
use Prim.Native.Nat.{ℕ, zero, suc, ◌+◌, ◌-◌, ◌*◌, ◌/◌, ◌<◌}
use native.Mathlib.Nat.{zero-add}
use native.Mathlib.Omega.{arith}
use borrow.Author.Tests.{ltb-true, ltb-false}
use lib.Dec.{ltb}
use lib.ListN.{length, take, drop, length-append}
use lib.Seq.{take_at, drop_at, drop-drop}
use Rattle.engine.specs.Discrete.{State}
use Rattle.plan.specs.Blocks.{passes, block}
use Rattle.plan.proofs.bytes.Laws.{Begins, next_place, piece_at}
use Rattle.files.specs.BookSession.{book_sessions}
use Rattle.files.specs.SessionBlocks.{session_block, session_blocks}
use Rattle.files.proofs.session_blocks.Laws.{block_at, length_session_block, session_block-passes}
use Rattle.dump.specs.EventBlocks.{blocks_of_events, event_block, event_blocks}
use Rattle.dump.specs.Dump.{state_header, dump_bytes}
use Rattle.dump.proofs.header.Laws.{length-header, header-passes}
use Rattle.dump.proofs.event_blocks.Laws.{length_event_block, length_event_blocks, event_block-passes}
use Rattle.dump.proofs.dump.Laws.{length_dump}

module _ (plan : List ℕ) (s : State) (rest : List ℕ) where
  abbrev header : List ℕ
  header = state_header plan s

  abbrev many : ℕ
  many = blocks_of_events (length s.site.pending)

  abbrev events : List ℕ
  events = event_blocks 2 plan s.site.pending

  abbrev sessions : List ℕ
  sessions = session_blocks (2 + many) (book_sessions plan s.site.sessions)

  pub parts : dump_bytes plan s ++ rest ≡ header ++ (events ++ (sessions ++ rest))
  unfolding dump_bytes
  parts = rw (append_assoc header (events ++ sessions) rest, append_assoc events sessions rest)

  -- a block of events
  in_events : (j : ℕ) → j < many → take 512 (drop (512 + 512 * j) (dump_bytes plan s ++ rest)) ≡ event_block 2 plan s.site.pending j
  unfolding event_blocks Begins
  in_events j h =
      let found = piece_at (event_block 2 plan s.site.pending) 512 (length_event_block plan s.site.pending 2) 0 many j (sessions ++ rest) h in
      let past : drop 512 (header ++ (events ++ (sessions ++ rest))) ≡ events ++ (sessions ++ rest) = drop_at header _ 512 (length-header _ _ _ _ _ _ _) in
      rw (parts, ← drop-drop, past, rw zero-add at found.1, take_at (event_block 2 plan s.site.pending j) found.0 512 (length_event_block plan s.site.pending 2 j))

  -- and one of sessions
  in_sessions : (i : ℕ) → i < (length (book_sessions plan s.site.sessions) + 4) / 5
      → take 512 (drop (512 + 512 * many + 512 * i) (dump_bytes plan s ++ rest)) ≡ session_block (2 + many) (book_sessions plan s.site.sessions) i
  unfolding Begins
  in_sessions i h =
      let xs = book_sessions plan s.site.sessions in
      let long : length (header ++ events) ≡ 512 + 512 * many = rw (length-append, length-header, length_event_blocks plan s.site.pending 2) in
      let found = block_at (header ++ events) (512 + 512 * many) long (2 + many) xs rest i h in
      rw (parts, ← append_assoc header events (sessions ++ rest), found.1, take_at (session_block (2 + many) xs i) found.0 512 (length_session_block (2 + many) xs i))

  pub dump_passes : (k : ℕ) → 512 * k < length (dump_bytes plan s) → passes (k + 1) (block (dump_bytes plan s ++ rest) k) ≡ true
  unfolding block
  dump_passes zero h = rw (parts, take_at header _ 512 (length-header _ _ _ _ _ _ _)) (header-passes _ _ _ _ _ _ _)
  dump_passes (suc j) h = go (ltb j many) refl
    where
      place : suc j + 1 ≡ 2 + j
      place = omega arith

      go : (t : Bool) → ltb j many ≡ t → passes (suc j + 1) (take 512 (drop (512 * suc j) (dump_bytes plan s ++ rest))) ≡ true
      go true e = rw (place, next_place, in_events j (ltb-true j many e)) (event_block-passes plan s.site.pending 2 j)
      go false e =
          let i : j ≡ many + (j - many) = omega (arith, ltb-false j many e) in
          let at : 512 * suc j ≡ 512 + 512 * many + 512 * (j - many) = omega (arith, ltb-false j many e) in
          let number : suc j + 1 ≡ 2 + many + (j - many) = omega (arith, ltb-false j many e) in
          rw (number, at, in_sessions (j - many) (omega (arith, h, length_dump plan s, ltb-false j many e))) (session_block-passes (2 + many) (book_sessions plan s.site.sessions) (j - many))

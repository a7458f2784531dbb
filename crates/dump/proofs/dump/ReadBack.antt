-- A dump that is read: its header, its events and its sessions. Assumes nothing.
use mathlib.Core.Path.{◌≡◌, refl, ap, ◌∙◌}
use mathlib.Core.List.{List, [], ◌∷◌, ◌++◌, map, append_assoc}
use Prim.Native.Nat.{ℕ, ◌+◌, ◌*◌, ◌/◌, ◌%◌, ◌<◌}
use native.Mathlib.Nat.{zero-add}
use native.Mathlib.Omega.{arith}
use lib.ListN.{length, get_or, take, drop, length-append, length-map}
use lib.Seq.{ext_get_or, take_at, drop_at, drop-drop}
use Rattle.charger.specs.Lists.{count}
use Rattle.engine.specs.declared.events.Event.{Event}
use Rattle.engine.specs.Discrete.{State}
use Rattle.plan.specs.Bytes.{le_at, bytes, fields, pieces}
use Rattle.plan.specs.Blocks.{check_of, sealed}
use Rattle.plan.specs.Search.{each}
use Rattle.plan.proofs.bytes.Laws.{length-bytes, read_back, Begins, piece_at}
use Rattle.plan.proofs.SearchLaws.{length-each, each_at, each_same}
use Rattle.files.specs.BookSession.{book_sessions}
use Rattle.files.specs.SessionBlocks.{slot, length-slot, session_blocks}
use Rattle.files.proofs.session_blocks.Laws.{session_at_lem}
use Rattle.dump.specs.EventBlocks.{event_bytes, event_slot, event_block, blocks_of_events, event_blocks}
use Rattle.dump.specs.Dump.{queue_blocks, busy_blocks, is_busy, table, header_block, state_header, dump_bytes, event_count, event_at, events_in, session_count, session_at}
use Rattle.dump.proofs.header.Laws.{length-table, length-header}
use Rattle.dump.specs.EventBlocks as events
use Rattle.dump.proofs.event_blocks.Laws.{length_event_block, length_event_blocks}
use Rattle.dump.proofs.dump.Passes.{parts}

-- a list is what it has at each index
each_member : {A : Type 0} (l : List A) (d : A) → each (λ k. get_or l k d) 0 (length l) ≡ l
each_member l d =
    ext_get_or d (each (λ k. get_or l k d) 0 (length l)) l (length-each (λ k. get_or l k d) 0 (length l))
    (λ i h. each_at (λ k. get_or l k d) 0 (length l) i d (omega (arith, length-each (λ k. get_or l k d) 0 (length l))) ∙ rw zero-add)

-- ---- the header

module _ (queued busy events sessions used : ℕ) (queue chargers rest : List ℕ) where
  abbrev header : List ℕ
  header = header_block queued busy events sessions used queue chargers ++ rest

  events_back : events < 65536 → le_at 2 header 8 ≡ events
  unfolding header_block sealed fields bytes le_at
  events_back h = read_back 2 events h

  sessions_back : sessions < 65536 → le_at 2 header 10 ≡ sessions
  unfolding header_block sealed fields bytes le_at
  sessions_back h = read_back 2 sessions h

  -- what stands before the count of events
  front_back : take 8 header ≡ fields (1 ∷ 68 ∷ 1 ∷ 85 ∷ 1 ∷ 77 ∷ 1 ∷ 80 ∷ 2 ∷ queued ∷ 2 ∷ busy ∷ [])
  unfolding header_block sealed fields bytes
  front_back = refl

  -- and behind it
  tail_back : take 498 (drop 10 header) ≡ fields (2 ∷ sessions ∷ 4 ∷ 0 ∷ 8 ∷ used ∷ []) ++ (table queue ++ (table chargers ++ bytes 228 0))
  unfolding header_block sealed fields bytes
  tail_back =
      let tables : List ℕ = table queue ++ (table chargers ++ bytes 228 0) in
      let check : List ℕ = bytes 4 (check_of 1 (fields (1 ∷ 68 ∷ 1 ∷ 85 ∷ 1 ∷ 77 ∷ 1 ∷ 80 ∷ 2 ∷ queued ∷ 2 ∷ busy ∷ 2 ∷ events ∷ 2 ∷ sessions ∷ 4 ∷ 0 ∷ 8 ∷ used ∷ []) ++ tables)) in
      let first : take 484 (tables ++ check ++ rest) ≡ tables = rw append_assoc (take_at tables (check ++ rest) 484 (simp (length-append, length-table, length-bytes))) in
      ap (λ (l : List ℕ). fields (2 ∷ sessions ∷ 4 ∷ 0 ∷ 8 ∷ used ∷ []) ++ l) first

-- ---- the dump of a state, and what follows it

module _ (plan : List ℕ) (s : State) (rest : List ℕ) (few : length s.site.pending < 65536) where
  abbrev dump : List ℕ
  dump = dump_bytes plan s ++ rest

  abbrev es : List Event
  es = s.site.pending

  abbrev many : ℕ
  many = blocks_of_events (length es)

  pub event_count_lem : event_count dump ≡ length es
  event_count_lem = rw (parts plan s rest) (events_back _ _ (length es) _ _ _ _ _ few)

  -- the event at the index k
  event_at_lem : (k : ℕ) → k < length es → event_at dump k ≡ event_slot plan es k
  unfolding event_blocks event_block sealed Begins
  event_at_lem k h =
      let j : ℕ = k / 31 in
      let i : ℕ = k % 31 in
      let behind : List ℕ = session_blocks (2 + many) (book_sessions plan s.site.sessions) ++ rest in
      let in_block = piece_at (event_block 2 plan es) 512 (length_event_block plan es 2) 0 many j behind (omega arith) in
      let check : List ℕ = bytes 4 (check_of (2 + j) (pieces (event_slot plan es) (31 * j) 31 ++ bytes 12 0)) in
      let found = piece_at (event_slot plan es) 16 (events.length-slot plan es) (31 * j) 31 i (bytes 12 0 ++ (check ++ in_block.0)) (omega arith) in
      let e : 31 * j + i ≡ k = omega arith in
      let past : drop 512 (state_header plan s ++ (event_blocks 2 plan es ++ behind)) ≡ event_blocks 2 plan es ++ behind = drop_at (state_header plan s) _ 512 (length-header _ _ _ _ _ _ _) in
      rw (parts plan s rest, ← drop-drop, ← drop-drop, past, rw zero-add at in_block.1, append_assoc, append_assoc, rw e at found.1, take_at (event_slot plan es k) found.0 16 (events.length-slot plan es k))

  pub events_read : events_in dump ≡ map (event_bytes plan) es
  unfolding events_in event_slot
  events_read =
      rw event_count_lem
      (each_same (event_at dump) (event_slot plan es) 0 (length es) (λ k a b. event_at_lem k (omega arith))
      ∙ rw length-map at (each_member (map (event_bytes plan) es) (bytes 16 0)))

  -- ---- the sessions

  pub session_count_lem : length s.site.sessions < 65536 → session_count dump ≡ length s.site.sessions
  session_count_lem h = rw (parts plan s rest) (sessions_back _ _ _ (length s.site.sessions) _ _ _ _ h)

  pub session_read : (k : ℕ) → k < length (book_sessions plan s.site.sessions) → session_at dump k ≡ slot (book_sessions plan s.site.sessions) k
  unfolding Begins
  session_read k h =
      let xs = book_sessions plan s.site.sessions in
      let front : List ℕ = state_header plan s ++ event_blocks 2 plan es in
      let long : length front ≡ 512 + 512 * many = rw (length-append, length-header, length_event_blocks plan es 2) in
      let found = session_at_lem front (512 + 512 * many) long (2 + many) xs rest k h in
      rw (event_count_lem, parts plan s rest, ← append_assoc (state_header plan s) (event_blocks 2 plan es) _, found.1, take_at (slot xs k) found.0 96 (length-slot xs k))

  -- ---- the header but for the count of events and the check

  pub before_events : take 8 dump ≡ fields (1 ∷ 68 ∷ 1 ∷ 85 ∷ 1 ∷ 77 ∷ 1 ∷ 80 ∷ 2 ∷ length s.site.queue ∷ 2 ∷ count is_busy s.site.places ∷ [])
  before_events = rw (parts plan s rest) (front_back _ _ _ _ _ _ _ _)

  pub behind_events : take 498 (drop 10 dump)
      ≡ fields (2 ∷ length s.site.sessions ∷ 4 ∷ 0 ∷ 8 ∷ s.handled ∷ []) ++ (table (queue_blocks plan s.site.queue) ++ (table (busy_blocks plan 0 s.site.places) ++ bytes 228 0))
  behind_events = rw (parts plan s rest) (tail_back _ _ _ _ _ _ _ _)

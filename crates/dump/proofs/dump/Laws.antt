-- Laws of a dump: how it is stored, its length, and the events handled read back. Assumes nothing.
use mathlib.Core.Path.{◌≡◌, sym, ◌∙◌}
use mathlib.Core.List.{List, ◌++◌, append_assoc}
use Prim.Native.Nat.{ℕ, ◌+◌, ◌*◌, ◌/◌, ◌^◌, ◌≤◌, ◌<◌}
use native.Mathlib.Nat.{zero-add}
use native.Mathlib.Omega.{arith}
use lib.ListN.{length, length-append}
use lib.Seq.{sets, sets-eq}
use Rattle.engine.specs.Discrete.{State}
use Rattle.plan.specs.Bytes.{le_at}
use Rattle.plan.proofs.bytes.Laws.{sets_append}
use Rattle.files.specs.Book.{written}
use Rattle.files.specs.BookSession.{book_sessions}
use Rattle.files.specs.SessionBlocks.{session_blocks}
use Rattle.files.proofs.session_blocks.Laws.{length_session_blocks}
use Rattle.dump.specs.EventBlocks.{blocks_of_events, event_blocks}
use Rattle.dump.specs.Dump.{state_header, dump_bytes}
use Rattle.dump.proofs.header.Laws.{length-header, used_back}
use Rattle.dump.proofs.event_blocks.Laws.{length_event_blocks}

module _ (plan : List ℕ) (s : State) where
  abbrev events : ℕ
  events = blocks_of_events (length s.site.pending)

  pub length_dump : length (dump_bytes plan s) ≡ 512 + 512 * events + 512 * ((length (book_sessions plan s.site.sessions) + 4) / 5)
  unfolding dump_bytes
  length_dump =
      rw (length-append, length-header, length-append, length_event_blocks plan s.site.pending 2, length_session_blocks (2 + events) (book_sessions plan s.site.sessions))
      (omega arith)

  -- it is stored in its parts, and the bytes past it stay
  pub put_whole : (x a b r : List ℕ) → length (dump_bytes plan s) ≤ length x → a ≡ sets x 0 (state_header plan s) → b ≡ sets a 512 (event_blocks 2 plan s.site.pending)
      → r ≡ sets b (512 + 512 * events) (session_blocks (2 + events) (book_sessions plan s.site.sessions)) → r ≡ written (dump_bytes plan s) x
  unfolding written dump_bytes
  put_whole x a b r h p q u =
      let first : List ℕ = state_header plan s in
      let second : List ℕ = event_blocks 2 plan s.site.pending in
      let third : List ℕ = session_blocks (2 + events) (book_sessions plan s.site.sessions) in
      let joined : sets x 0 (first ++ (second ++ third)) ≡ r =
      rw (sets_append x 0 first, zero-add, length-header, sets_append (sets x 0 first) 512 second, length_event_blocks plan s.site.pending 2) (cc (p, q, u)) in
      sym joined ∙ rw zero-add at (sets-eq (first ++ (second ++ third)) x 0 (omega arith))

  -- the events handled are read back
  pub handled_back : (rest : List ℕ) → s.handled < 2 ^ 64 → le_at 8 (dump_bytes plan s ++ rest) 16 ≡ s.handled
  unfolding dump_bytes
  handled_back rest h = rw append_assoc (used_back _ _ _ _ s.handled _ _ _ (omega arith))

-- Laws of blocks of events: as they are stored, and their lengths. Assumes nothing.
use mathlib.Core.Path.{◌≡◌, refl}
use mathlib.Core.Bool.{true}
use mathlib.Core.List.{List, [], ◌∷◌}
use Prim.Native.Nat.{ℕ, zero, suc, ◌+◌, ◌*◌}
use Rattle.std.proofs.Common.{lit≤}
use lib.ListN.{length}
use Rattle.std.specs.Prelude.{Some, None, slice_get}
use Rattle.charger.specs.Lists.{All, also}
use Rattle.engine.specs.declared.events.Event.{Event}
use Rattle.plan.specs.Bytes.{bytes}
use Rattle.plan.specs.Blocks.{passes}
use Rattle.plan.proofs.bytes.Laws.{length-pieces}
use Rattle.plan.proofs.records.Laws.{length_block, block_passes}
use Rattle.dump.specs.EventBlocks.{event_bytes, event_slot, length-slot, event_block, blocks_of_events, event_blocks}
use Rattle.dump.specs.Code.Dumping.{NearEvent}

-- ---- the event at an index, and none past the last

pub slot_some : (plan : List ℕ) (es : List Event) (k : ℕ) (e : Event) → slice_get es k ≡ Some e → event_slot plan es k ≡ event_bytes plan e
unfolding event_slot
slot_some plan [] k e h = absurd (cc)
slot_some plan (x ∷ es) zero e h =
    let same : x ≡ e = cc in
    rw same
slot_some plan (x ∷ es) (suc k) e h = slot_some plan es k e h

pub slot_none : (plan : List ℕ) (es : List Event) (k : ℕ) → slice_get es k ≡ None → event_slot plan es k ≡ bytes 16 0
unfolding event_slot
slot_none plan [] k h = refl
slot_none plan (x ∷ es) zero h = absurd (cc)
slot_none plan (x ∷ es) (suc k) h = slot_none plan es k h

-- it is near, since all are
pub near_there : (es : List Event) (k : ℕ) (e : Event) → slice_get es k ≡ Some e → All NearEvent es → NearEvent e
near_there [] k e h all = absurd (cc)
near_there (x ∷ es) zero e h (also n all) =
    let same : x ≡ e = cc in
    rw (← same) n
near_there (x ∷ es) (suc k) e h (also n all) = near_there es k e h all

module _ (plan : List ℕ) (es : List Event) (place : ℕ) where
  pub length_event_block : (j : ℕ) → length (event_block place plan es j) ≡ 512
  unfolding event_block
  length_event_block = length_block (event_slot plan es) 16 (length-slot plan es) 31 place (lit≤ tt)

  pub length_event_blocks : length (event_blocks place plan es) ≡ 512 * blocks_of_events (length es)
  unfolding event_blocks
  length_event_blocks = length-pieces (event_block place plan es) 512 length_event_block 0 (blocks_of_events (length es))

  pub event_block-passes : (j : ℕ) → passes (place + j) (event_block place plan es j) ≡ true
  unfolding event_block
  event_block-passes = block_passes (event_slot plan es) 16 (length-slot plan es) 31 place (lit≤ tt)

-- Rules. Blocks of sessions, five 96-byte sessions a block, from any place of a file on.
use Rattle.std.specs.Prelude.{◌≡◌, refl, ℕ, zero, suc, ◌+◌, ◌*◌, ◌/◌, ◌%◌, List, [], ◌∷◌, ◌++◌, length, get_or, drop}
use Rattle.plan.specs.Bytes.{le_at, bytes, fields, pieces}
use Rattle.plan.specs.Blocks.{sealed}
use Rattle.files.specs.declared.book_session.BookSession.{BookSession}
use Rattle.files.specs.BookSession.{no_session}

-- a session's 96 bytes: widths and values, from byte 0 on; the fleet of every outcome at 14 (request 9)
unfoldable pub session_bytes : BookSession → List ℕ
session_bytes x =
    fields
    (4 ∷ x.vehicle_id ∷ 4 ∷ x.profile_id ∷ 4 ∷ x.charger_id ∷ 1 ∷ x.connector ∷ 1 ∷ x.outcome ∷ 2 ∷ x.fleet
    ∷ 8 ∷ x.arrival ∷ 8 ∷ x.plugin ∷ 8 ∷ x.unplug ∷ 8 ∷ x.wait
    ∷ 8 ∷ x.duration ∷ 8 ∷ x.idle ∷ 8 ∷ x.peak ∷ 8 ∷ x.energy
    ∷ 8 ∷ x.start ∷ 8 ∷ x.end ∷ [])

-- the bytes of the session at the index k, zero past the last one
unfoldable pub slot : List BookSession → ℕ → List ℕ
slot xs k = session_bytes (get_or xs k no_session)

pub length-slot : (xs : List BookSession) (k : ℕ) → length (slot xs k) ≡ 96
unfolding slot session_bytes fields bytes
length-slot xs k = refl

-- the block of the sessions 5 j to 5 j + 4, where the first block of sessions is the place-th of its file
unfoldable pub session_block : ℕ → List BookSession → ℕ → List ℕ
session_block place xs j = sealed (place + j) (pieces (slot xs) (5 * j) 5 ++ bytes 28 0)

-- all of them
unfoldable pub session_blocks : ℕ → List BookSession → List ℕ
session_blocks place xs = pieces (session_block place xs) 0 ((length xs + 4) / 5)

-- ---- sessions read back

-- where the session at the index k begins in a file whose sessions begin at start
abbrev pub session_offset : ℕ → ℕ → ℕ
session_offset start k = start + 512 * (k / 5) + 96 * (k % 5)

-- the session that b begins with
unfoldable pub session_of : List ℕ → BookSession
session_of b =
    record {
      vehicle_id = le_at 4 b 0;
      profile_id = le_at 4 b 4;
      charger_id = le_at 4 b 8;
      connector = le_at 1 b 12;
      outcome = le_at 1 b 13;
      fleet = le_at 2 b 14;
      arrival = le_at 8 b 16;
      plugin = le_at 8 b 24;
      unplug = le_at 8 b 32;
      wait = le_at 8 b 40;
      duration = le_at 8 b 48;
      idle = le_at 8 b 56;
      peak = le_at 8 b 64;
      energy = le_at 8 b 72;
      start = le_at 8 b 80;
      end = le_at 8 b 88;
    }

-- m sessions of such a file, those from the index k on
unfoldable pub sessions_from : List ℕ → ℕ → ℕ → ℕ → List BookSession
sessions_from b start k zero = []
sessions_from b start k (suc m) = session_of (drop (session_offset start k) b) ∷ sessions_from b start (suc k) m

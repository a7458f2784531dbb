-- Rules. The dump of a run by events: the state after the last handled event, in blocks. Header, pending events, sessions.
use Rattle.std.specs.Prelude.{◌≡◌, refl, ℕ, suc, ◌+◌, ◌*◌, ◌/◌, ◌%◌, Bool, not, ◌&&◌, List, [], ◌∷◌, ◌++◌, map, leb, eqb, length, get_or, take, drop}
use Rattle.charger.specs.Lists.{count}
use Rattle.engine.specs.Plan.{VehiclePlace, ChargerPlace}
use Rattle.engine.specs.Discrete.{Occupant, no_car, car, is_vacant, State, run}
use Rattle.plan.specs.Bytes.{le_at, bytes, fields, pieces}
use Rattle.plan.specs.Blocks.{sealed}
use Rattle.plan.specs.Search.{every, each}
use Rattle.plan.specs.Places.{place_of}
use Rattle.plan.specs.declared.places.Kind.TheVariants.{Charger, Vehicle}
use Rattle.files.specs.Read.{read_plan}
use Rattle.files.specs.BookSession.{book_sessions}
use Rattle.files.specs.SessionBlocks.{session_blocks, session_offset}
use Rattle.dump.specs.EventBlocks.{blocks_of_events, event_blocks}

-- ---- the header

-- the queue's vehicle blocks, in its order
abbrev pub queue_blocks : List ℕ → List VehiclePlace → List ℕ
queue_blocks plan queue = map (place_of plan Vehicle) queue

-- a busy charger's block and its vehicle's
abbrev pub busy_at : List ℕ → ChargerPlace → Occupant → List ℕ
busy_at plan c no_car = []
busy_at plan c (car v) = place_of plan Charger c ∷ place_of plan Vehicle v ∷ []

-- those of the busy chargers from the place c on, in plan order
abbrev pub busy_blocks : List ℕ → ChargerPlace → List Occupant → List ℕ
busy_blocks plan c [] = []
busy_blocks plan c (x ∷ xs) = busy_at plan c x ++ busy_blocks plan (suc c) xs

abbrev pub is_busy : Occupant → Bool
is_busy x = not (is_vacant x)

-- room for 64 16-bit blocks, zero past the last one
unfoldable pub table : List ℕ → List ℕ
table xs = pieces (λ k. bytes 2 (get_or xs k 0)) 0 64

pub length-place : (xs : List ℕ) (k : ℕ) → length (bytes 2 (get_or xs k 0)) ≡ 2
unfolding bytes
length-place xs k = refl

-- the letters D, U, M, P; counts of queued, busy, events and sessions; used; from 24 the queue, from 152 the busy chargers
unfoldable pub header_block : ℕ → ℕ → ℕ → ℕ → ℕ → List ℕ → List ℕ → List ℕ
header_block queued busy events sessions used queue chargers =
    sealed 1
    (fields
    (1 ∷ 68 ∷ 1 ∷ 85 ∷ 1 ∷ 77 ∷ 1 ∷ 80 ∷ 2 ∷ queued ∷ 2 ∷ busy ∷ 2 ∷ events ∷ 2 ∷ sessions ∷ 4 ∷ 0 ∷ 8 ∷ used ∷ [])
    ++ (table queue ++ (table chargers ++ bytes 228 0)))

abbrev pub state_header : List ℕ → State → List ℕ
state_header plan s =
    let site = s.site in
    header_block (length site.queue) (count is_busy site.places) (length site.pending) (length site.sessions) s.handled
    (queue_blocks plan site.queue) (busy_blocks plan 0 site.places)

-- ---- the whole dump

-- the header is place 1, the events follow, and then the sessions as in a book
unfoldable pub dump_bytes : List ℕ → State → List ℕ
dump_bytes plan s =
    let site = s.site in
    state_header plan s
    ++ (event_blocks 2 plan site.pending ++ session_blocks (2 + blocks_of_events (length site.pending)) (book_sessions plan site.sessions))

-- the dump of a plan's run by events after n of them
unfoldable pub dump_of : List ℕ → ℕ → List ℕ
dump_of plan n = dump_bytes plan (run (read_plan plan) n)

-- ---- a dump that is given back

-- the handled count that some bytes name
abbrev pub handled_in : List ℕ → ℕ
handled_in b = le_at 8 b 16

-- some bytes begin with those of a file
unfoldable pub starts_with : List ℕ → List ℕ → Bool
starts_with file b = leb (length file) (length b) && every (λ k. eqb (get_or b k 0) (get_or file k 0)) 0 (length file)

-- some bytes begin with the dump of this plan after the handled count that they name
unfoldable pub is_dump : List ℕ → List ℕ → Bool
is_dump plan b = starts_with (dump_of plan (handled_in b)) b

-- ---- a dump that is read

abbrev pub event_count : List ℕ → ℕ
event_count b = le_at 2 b 8

-- the 16 bytes of the event at the index k
abbrev pub event_at : List ℕ → ℕ → List ℕ
event_at b k = take 16 (drop (512 + 512 * (k / 31) + 16 * (k % 31)) b)

unfoldable pub events_in : List ℕ → List (List ℕ)
events_in b = each (event_at b) 0 (event_count b)

abbrev pub session_count : List ℕ → ℕ
session_count b = le_at 2 b 10

-- the 96 bytes of the session at the index k; the sessions follow the blocks of events
abbrev pub session_at : List ℕ → ℕ → List ℕ
session_at b k = take 96 (drop (session_offset (512 + 512 * blocks_of_events (event_count b)) k) b)

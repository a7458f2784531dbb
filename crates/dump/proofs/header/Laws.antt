-- Laws of the header of a dump: its tables, and the busy chargers. Assumes nothing.
use mathlib.Core.Path.{◌≡◌, refl, sym, ap, ◌∙◌}
use mathlib.Core.Bool.{true}
use mathlib.Core.List.{List, [], ◌∷◌, ◌++◌, append-nil, append_assoc}
use Prim.Native.Nat.{ℕ, suc, ◌+◌, ◌*◌, ◌/◌, ◌^◌, ◌≤◌, ◌<◌}
use native.Mathlib.Nat.{add-zero, zero-add}
use native.Mathlib.Omega.{arith}
use lib.ListN.{length, get_or, take, drop, length-append, length-take, length-map}
use lib.Seq.{sets}
use Rattle.charger.specs.Lists.{tick, count}
use Rattle.charger.proofs.waiting_queue.Part.{take_more}
use Rattle.engine.specs.Discrete.{Occupant, no_car, car, State}
use Rattle.plan.specs.Bytes.{le_at, bytes, fields}
use Rattle.plan.specs.Blocks.{check_of, sealed, passes}
use Rattle.plan.proofs.bytes.Laws.{sets_append, length-bytes, length-pieces, read_back}
use Rattle.plan.proofs.blocks.Laws.{put_sealed, length-sealed, sealed-passes}
use Rattle.dump.specs.Dump.{queue_blocks, busy_at, busy_blocks, is_busy, table, header_block, state_header}

-- ---- tables

pub length-table : (xs : List ℕ) → length (table xs) ≡ 128
unfolding table
length-table xs = length-pieces (λ (k : ℕ). bytes 2 (get_or xs k 0)) 2 (λ k. length-bytes 2 (get_or xs k 0)) 0 64

-- ---- the busy chargers

module _ (plan : List ℕ) where
  -- one place more
  busy_more : (c : ℕ) (xs : List Occupant) (o : Occupant) → busy_blocks plan c (xs ++ (o ∷ [])) ≡ busy_blocks plan c xs ++ busy_at plan (c + length xs) o
  busy_more c [] o = rw (add-zero, append-nil)
  busy_more c (x ∷ xs) o =
      let e : suc c + length xs ≡ c + suc (length xs) = omega arith in
      ap (λ (l : List ℕ). busy_at plan c x ++ l) (busy_more (suc c) xs o) ∙ rw e (sym (append_assoc (busy_at plan c x) _ _))

  two_each : (c : ℕ) (o : Occupant) → length (busy_at plan c o) ≡ 2 * tick (is_busy o)
  two_each c no_car = refl
  two_each c (car v) = refl

  pub length_busy : (c : ℕ) (xs : List Occupant) → length (busy_blocks plan c xs) ≡ 2 * count is_busy xs
  length_busy c [] = refl
  length_busy c (x ∷ xs) = rw length-append (omega (arith, two_each c x, length_busy (suc c) xs))

  -- the places up to c, with who stands at c
  pub busy_next : (places : List Occupant) (c : ℕ) (d : Occupant) → c < length places
      → busy_blocks plan 0 (take (c + 1) places) ≡ busy_blocks plan 0 (take c places) ++ busy_at plan c (get_or places c d)
  busy_next places c d h =
      let long : length (take c places) ≡ c = simp length-take (omega arith) in
      rw (take_more places c d h, busy_more, zero-add, long)

  -- what one charger more adds to the blocks so far
  pub busy_step : (places : List Occupant) (c : ℕ) (o : Occupant) (a r : List ℕ) → c < length places → get_or places c no_car ≡ o
      → a ≡ busy_blocks plan 0 (take c places) → r ≡ a ++ busy_at plan c o → r ≡ busy_blocks plan 0 (take (c + 1) places)
  busy_step places c o a r h e p q = q ∙ rw (p, ← e, busy_next places c no_car h)

-- ---- the header is stored in its parts

length_tables : (queue busy : List ℕ) → length (table queue ++ (table busy ++ bytes 228 0)) ≡ 484
length_tables queue busy = simp (length-append, length-table, length-bytes)

pub put_both : (s a b r queue busy : List ℕ) → a ≡ sets s 24 (table queue) → b ≡ sets a 152 (table busy) → r ≡ sets b 280 (bytes 228 0)
    → r ≡ sets s 24 (table queue ++ (table busy ++ bytes 228 0))
put_both s a b r queue busy p q u =
    u ∙ rw (q, p, sets_append s 24 (table queue), length-table queue, sets_append (sets s 24 (table queue)) 152 (table busy), length-table busy)

-- the letters, the counts and the events handled
abbrev numbers : ℕ → ℕ → ℕ → ℕ → ℕ → List ℕ
numbers queued busy events sessions used =
    fields
    (1 ∷ 68 ∷ 1 ∷ 85 ∷ 1 ∷ 77 ∷ 1 ∷ 80 ∷ 2 ∷ queued ∷ 2 ∷ busy ∷ 2 ∷ events ∷ 2 ∷ sessions ∷ 4 ∷ 0 ∷ 8 ∷ used ∷ [])

length-numbers : (queued busy events sessions used : ℕ) → length (numbers queued busy events sessions used) ≡ 24
unfolding fields bytes
length-numbers queued busy events sessions used = refl

module _ (queued busy events sessions used : ℕ) (queue chargers : List ℕ) where
  abbrev body : List ℕ
  body = numbers queued busy events sessions used ++ (table queue ++ (table chargers ++ bytes 228 0))

  length_body : length body ≡ 508
  length_body = rw (length-append, length-numbers queued busy events sessions used, length_tables queue chargers)

  pub length-header : length (header_block queued busy events sessions used queue chargers) ≡ 512
  unfolding header_block
  length-header = length-sealed 1 body length_body

  pub header-passes : passes 1 (header_block queued busy events sessions used queue chargers) ≡ true
  unfolding header_block
  header-passes = sealed-passes 1 body length_body

  pub put_parts : (s a b r : List ℕ) → 512 ≤ length s → a ≡ sets s 0 (numbers queued busy events sessions used)
      → b ≡ sets a 24 (table queue ++ (table chargers ++ bytes 228 0))
      → r ≡ sets b 508 (bytes 4 (check_of 1 (take 508 (drop 0 b)))) → r ≡ sets s 0 (header_block queued busy events sessions used queue chargers)
  unfolding header_block
  put_parts s a b r h p q u =
      put_sealed s b r 0 1 body length_body (omega arith)
      (q ∙ rw (p, sets_append s 0 (numbers queued busy events sessions used), length-numbers queued busy events sessions used)) u

  -- the events handled are read back
  pub used_back : (rest : List ℕ) → used < 256 ^ 8 → le_at 8 (header_block queued busy events sessions used queue chargers ++ rest) 16 ≡ used
  unfolding header_block sealed fields bytes le_at
  used_back rest h = read_back 8 used h

-- ---- the header of a state

pub state_header_lem : (plan : List ℕ) (s : State) (queued busy events sessions used : ℕ) (queue chargers : List ℕ)
    → queue ≡ queue_blocks plan s.site.queue → chargers ≡ busy_blocks plan 0 s.site.places
    → queued ≡ length queue → busy ≡ length chargers / 2 → events ≡ length s.site.pending → sessions ≡ length s.site.sessions → used ≡ s.handled
    → header_block queued busy events sessions used queue chargers ≡ state_header plan s
state_header_lem plan s queued busy events sessions used queue chargers l m a b c d e =
    let all : queued ≡ length s.site.queue = a ∙ rw (l, length-map) in
    let half : busy ≡ count is_busy s.site.places = omega (arith, b, ap length m, length_busy plan 0 s.site.places) in
    rw (all, half, c, d, e, l, m)

-- Rules. The plan's blocks: the fields of each kind with their limits. Unnamed bytes are zero.
use Rattle.std.specs.Prelude.{ℕ, ◌+◌, ◌-◌, ◌*◌, min, Bool, ◌&&◌, ◌||◌, List, [], ◌∷◌, ◌==◌, from_bits, nat_le, slice_index, Float}
use Rattle.std.specs.Float.{binary64}
use Rattle.curve.specs.F64.{ratio, in_range}
use Rattle.plan.specs.Bytes.{le_at}
use Rattle.plan.specs.Search.{every}

-- the f64 in the 8 bytes of b from at
abbrev pub f64_at : List ℕ → ℕ → Float
f64_at b at = from_bits binary64 (le_at 8 b at)

-- each byte of b from `from` up to, not including, `to` is from lo to hi
unfoldable pub bytes_in : List ℕ → ℕ → ℕ → ℕ → ℕ → Bool
bytes_in b from to lo hi = every (λ k. nat_le lo (slice_index b k) && nat_le (slice_index b k) hi) from (to - from)

abbrev pub zeros : List ℕ → ℕ → ℕ → Bool
zeros b from to = bytes_in b from to 0 0

-- ---- header

-- the ASCII letters P, L, A, N
abbrev pub letters_ok : List ℕ → Bool
letters_ok b = slice_index b 0 == 80 && slice_index b 1 == 76 && slice_index b 2 == 65 && slice_index b 3 == 78

-- byte 12 is 1 with a site limit, 2 with one that is shared evenly (request 10), 0 without; the limit is from 0.125 to 65,536 kW,
-- all zero bytes if absent
abbrev pub limit_ok : List ℕ → Bool
limit_ok b =
    (le_at 1 b 12 == 1 || le_at 1 b 12 == 2) && in_range (le_at 8 b 16) (ratio 1 8) (ratio 65536 1) || le_at 1 b 12 == 0 && zeros b 16 24

-- the queue places of fleets 1 to 64, one byte each, from 0 to 64 (request 9)
abbrev pub header_tests : List ℕ → List Bool
header_tests b = zeros b 10 12 ∷ limit_ok b ∷ zeros b 13 16 ∷ bytes_in b 24 88 0 64 ∷ zeros b 88 508 ∷ []

-- ---- profile

-- the point count, of which no more than 30 are read
unfoldable pub point_count : List ℕ → ℕ
point_count b = min (le_at 2 b 4) 30

-- the i-th point: SOC from 0 to 1, power from 0.125 to 1,024 kW
unfoldable pub point_ok : List ℕ → ℕ → Bool
point_ok b i = in_range (le_at 8 b (16 + 16 * i)) (ratio 0 1) (ratio 1 1) && in_range (le_at 8 b (24 + 16 * i)) (ratio 1 8) (ratio 1024 1)

-- at most 30 points, battery from 1 to 1,024 kWh
abbrev pub profile_tests : List ℕ → List Bool
profile_tests b =
    nat_le (le_at 2 b 4) 30
    ∷ zeros b 6 8
    ∷ in_range (le_at 8 b 8) (ratio 1 1) (ratio 1024 1)
    ∷ every (point_ok b) 0 (point_count b)
    ∷ zeros b (16 + 16 * point_count b) 508
    ∷ []

-- ---- charger

-- a connector count at at, from 0 to 5, and as many codes after it, from 1 to 5, with zero bytes up to to
unfoldable pub connectors_ok : List ℕ → ℕ → ℕ → Bool
connectors_ok b at to =
    nat_le (le_at 1 b at) 5 && bytes_in b (at + 1) (at + 1 + le_at 1 b at) 1 5 && zeros b (at + 1 + le_at 1 b at) to

-- the cap of a lead at at: zero bytes for none, else from 1 to 4,096 A (request 8)
unfoldable pub cap_ok : List ℕ → ℕ → Bool
cap_ok b at = zeros b at (at + 8) || in_range (le_at 8 b at) (ratio 1 1) (ratio 4096 1)

-- max power from 0.125 to 1,024 kW, current from 1 to 4,096 A, voltage from 1 to 4,096 V; the caps by connector code, from 1
abbrev pub charger_tests : List ℕ → List Bool
charger_tests b =
    connectors_ok b 4 16
    ∷ in_range (le_at 8 b 16) (ratio 1 8) (ratio 1024 1)
    ∷ in_range (le_at 8 b 24) (ratio 1 1) (ratio 4096 1)
    ∷ in_range (le_at 8 b 32) (ratio 1 1) (ratio 4096 1)
    ∷ cap_ok b 40
    ∷ cap_ok b 48
    ∷ cap_ok b 56
    ∷ cap_ok b 64
    ∷ cap_ok b 72
    ∷ zeros b 80 508
    ∷ []

-- ---- vehicle

-- SOC start and target from 0 to 1, idle from 0 to 604,800 s, arrival and longest wait from 0 to 1,000,000 s; the fleet, 0 for none,
-- else from 1 to 64 (request 9)
abbrev pub vehicle_tests : List ℕ → List Bool
vehicle_tests b =
    connectors_ok b 8 16
    ∷ in_range (le_at 8 b 16) (ratio 0 1) (ratio 1 1)
    ∷ in_range (le_at 8 b 24) (ratio 0 1) (ratio 1 1)
    ∷ in_range (le_at 8 b 32) (ratio 0 1) (ratio 604800 1)
    ∷ nat_le (le_at 8 b 40) 1000000
    ∷ nat_le (le_at 8 b 48) 1000000
    ∷ nat_le (le_at 2 b 60) 64
    ∷ zeros b 62 508
    ∷ []

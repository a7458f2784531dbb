-- Rules. Where a plan's blocks stand: a header, P profiles, C chargers and V vehicles, in this order.
use Rattle.std.specs.Prelude.{ℕ, ◌+◌, Bool, true, false, cond, List, ◌==◌, nat_le}
use Rattle.plan.specs.Bytes.{le_at}
use Rattle.plan.specs.Blocks.{block}
use Rattle.plan.specs.declared.places.Kind.{Kind}
use Rattle.plan.specs.declared.places.Kind.TheVariants.{Header, Profile, Charger, Vehicle}

-- P, C and V: how many profiles, chargers and vehicles a plan has
abbrev pub profile_count : List ℕ → ℕ
profile_count plan = le_at 2 plan 4

abbrev pub charger_count : List ℕ → ℕ
charger_count plan = le_at 2 plan 6

abbrev pub vehicle_count : List ℕ → ℕ
vehicle_count plan = le_at 2 plan 8

-- the index of the first block of a kind
abbrev pub start_of : List ℕ → Kind → ℕ
start_of plan Header = 0
start_of plan Profile = 1
start_of plan Charger = 1 + profile_count plan
start_of plan Vehicle = 1 + profile_count plan + charger_count plan

-- the kind of the block at the index k, counted from 0
unfoldable pub kind_at : List ℕ → ℕ → Kind
kind_at plan k =
    cond (k == 0) Header
    (cond (nat_le k (profile_count plan)) Profile
    (cond (nat_le k (profile_count plan + charger_count plan)) Charger Vehicle))

abbrev pub is_profile : Kind → Bool
is_profile Header = false
is_profile Profile = true
is_profile Charger = false
is_profile Vehicle = false

abbrev pub is_vehicle : Kind → Bool
is_vehicle Header = false
is_vehicle Profile = false
is_vehicle Charger = false
is_vehicle Vehicle = true

-- the i-th block of a kind, counted from 0
abbrev pub block_of : List ℕ → Kind → ℕ → List ℕ
block_of plan kind i = block plan (start_of plan kind + i)

-- its place in the file, where the first block has place 1
abbrev pub place_of : List ℕ → Kind → ℕ → ℕ
place_of plan kind i = start_of plan kind + i + 1

abbrev pub profile_block : List ℕ → ℕ → List ℕ
profile_block plan k = block_of plan Profile k

abbrev pub charger_block : List ℕ → ℕ → List ℕ
charger_block plan c = block_of plan Charger c

abbrev pub vehicle_block : List ℕ → ℕ → List ℕ
vehicle_block plan v = block_of plan Vehicle v

-- Rules. The plan of a practice day: copies of a plan's one vehicle, whose arrival, start and target are drawn.
use Rattle.std.specs.Prelude.{ℕ, ◌+◌, ◌*◌, ◌%◌, List, ◌++◌, Float}
use Rattle.std.specs.Float.{binary64}
use Rattle.std.specs.Float.Ieee.{to_bits}
use Rattle.curve.specs.F64.{ratio}
use Rattle.plan.specs.Bytes.{bytes, stretch, pieces}
use Rattle.plan.specs.Blocks.{sealed}
use Rattle.plan.specs.Header.{header_counting}
use Rattle.plan.specs.Places.{start_of, vehicle_block}
use Rattle.plan.specs.declared.places.Kind.TheVariants.{Vehicle}
use Rattle.practice.specs.Xorshift.{draw}

-- ---- what three draws make of a car

abbrev pub drawn_arrival : ℕ → ℕ
drawn_arrival d = d % 86400

abbrev pub drawn_start : ℕ → Float
drawn_start d = ratio (d % 512) 1024

abbrev pub drawn_target : ℕ → Float
drawn_target d = ratio (512 + d % 512) 1024

-- ---- a car's block

-- the vehicle's bytes up to its check, with other id, start, target and arrival
unfoldable pub car_bytes : List ℕ → ℕ → Float → Float → ℕ → List ℕ
car_bytes vehicle id start target arrival =
    bytes 4 id ++ stretch vehicle 4 16 ++ bytes 8 (to_bits binary64 start) ++ bytes 8 (to_bits binary64 target) ++ stretch vehicle 32 40
    ++ bytes 8 arrival ++ stretch vehicle 48 508

-- the block of the i-th car, counted from 0, of those whose first block is the place-th of its file
unfoldable pub car_block : List ℕ → ℕ → ℕ → ℕ → List ℕ
car_block vehicle seed place i =
    sealed (place + i)
    (car_bytes vehicle (i + 1) (drawn_start (draw seed (3 * i + 2))) (drawn_target (draw seed (3 * i + 3))) (drawn_arrival (draw seed (3 * i + 1))))

-- ---- the plan

-- where the vehicles begin, in bytes
abbrev pub cars_at : List ℕ → ℕ
cars_at plan = 512 * start_of plan Vehicle

-- the header with V = count, the profiles and chargers as they are, and the cars
unfoldable pub practice_plan : List ℕ → ℕ → ℕ → List ℕ
practice_plan plan seed count =
    header_counting count plan ++ (stretch plan 512 (cars_at plan) ++ pieces (car_block (vehicle_block plan 0) seed (start_of plan Vehicle + 1)) 0 count)

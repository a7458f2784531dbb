-- What is read of a recorded list, and what answers it: its requests share its limit evenly. Bytes past the record's end count as 0.
use Rattle.std.specs.Prelude.{ℕ, zero, suc, ◌+◌, ◌*◌, min, List, [], ◌∷◌, drop, flat_map}
use Rattle.std.specs.Float.{binary64}
use Rattle.std.specs.Float.Ieee.{of_bits, to_bits}
use Rattle.plan.specs.Bytes.{le_at}
use Rattle.shares.specs.Watts.{watts_of, kilowatts_of}
use Rattle.shares.specs.Shares.{shares}

-- the whole watts of the power whose bits come first
abbrev pub watts_first : List ℕ → ℕ
watts_first rest = watts_of (of_bits binary64 (le_at 8 rest 0))

-- those of the first n
abbrev pub requests : ℕ → List ℕ → List ℕ
requests zero rest = []
requests (suc n) rest = watts_first rest ∷ requests n (drop 8 rest)

-- how many requests the first list has; a count above 32 stands for 32
abbrev pub count : List ℕ → ℕ
count rest = min (le_at 1 rest 0) 32

-- of a share its whole watts, and its bits in kilowatts
abbrev pub share_numbers : ℕ → List ℕ
share_numbers w = w ∷ to_bits binary64 (kilowatts_of w) ∷ []

-- the limit's whole watts, and what the requests get of them
unfoldable pub answer_of : List ℕ → List ℕ
answer_of rest =
    let limit : ℕ = watts_first (drop 1 rest) in
    limit ∷ flat_map share_numbers (shares (requests (count rest) (drop 9 rest)) limit)

-- what follows the first list in the record
unfoldable pub after_list : List ℕ → List ℕ
after_list rest = drop (9 + 8 * count rest) rest

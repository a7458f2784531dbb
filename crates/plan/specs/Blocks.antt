-- Rules. A block of a plan, a book or a dump: 512 bytes, the last four of them its check.
use Rattle.std.specs.Prelude.{ℕ, zero, suc, ◌+◌, ◌-◌, ◌*◌, ◌/◌, ◌%◌, ◌^◌, Bool, ◌&&◌, List, ◌++◌, take, drop, ◌==◌, nat_le, nat_lt}
use Rattle.plan.specs.Bytes.{le_at, bytes, pieces}

-- the sum of the first n 32-bit words of b
unfoldable pub words : ℕ → List ℕ → ℕ
words zero b = 0
words (suc n) b = words n b + le_at 4 b (4 * n)

-- the check of the block b that is the place-th of its file, counted from 1
unfoldable pub check_of : ℕ → List ℕ → ℕ
check_of place b = (place + words 127 b) % 2 ^ 32

-- a block made of its first 508 bytes
unfoldable pub sealed : ℕ → List ℕ → List ℕ
sealed place body = body ++ bytes 4 (check_of place body)

-- a block has the check of its place
unfoldable pub passes : ℕ → List ℕ → Bool
passes place b = le_at 4 b 508 == check_of place b

-- the block at the index k, counted from 0
unfoldable pub block : List ℕ → ℕ → List ℕ
block file k = take 512 (drop (512 * k) file)

-- a file of n bytes: not 0 of them, a multiple of 512, and not above `most` blocks
unfoldable pub whole_blocks : ℕ → ℕ → Bool
whole_blocks n most = nat_lt 0 n && n % 512 == 0 && nat_le (n / 512) most

-- the block of the n slots from n j on, each of w bytes, with zero bytes up to its check, where the first of such blocks is the place-th of its file
abbrev pub record_block : (ℕ → List ℕ) → ℕ → ℕ → ℕ → ℕ → List ℕ
record_block slot w n place j = sealed (place + j) (pieces slot (n * j) n ++ bytes (508 - w * n) 0)

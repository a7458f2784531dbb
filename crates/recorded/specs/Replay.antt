-- What is read of a record, and what is written of a call. Numbers are little-endian; bytes past a list's end count as 0.
use Rattle.std.specs.Prelude.{◌≡◌, ℕ, zero, suc, ◌+◌, ◌*◌, ◌%◌, ◌^◌, List, [], ◌∷◌, ◌++◌, drop, take, fold, flat_map, Result, Ok, Err, MatchResult}
use lib.Seq.{sets}
use Rattle.plan.specs.Bytes.{bytes, le_at}
use Rattle.plan.specs.Search.{each}

-- the k-th number of eight bytes in a record, from 0
abbrev pub u64_at : List ℕ → ℕ → ℕ
u64_at rest k = le_at 8 rest (8 * k)

-- the first n of them
abbrev pub u64s : ℕ → List ℕ → List ℕ
u64s n rest = each (u64_at rest) 0 n

-- a buffer with the change that comes first in a record: a 16-bit place, a byte count, and as many bytes, as far as record and buffer go
unfoldable pub change : List ℕ → List ℕ → List ℕ
change rest buffer = sets buffer (le_at 2 rest 0) (take (le_at 1 rest 2) (drop 3 rest))

-- what follows it in the record
unfoldable pub after_change : List ℕ → List ℕ
after_change rest = drop (3 + le_at 1 rest 2) rest

-- a buffer with the first n changes of a record
unfoldable pub changes : ℕ → List ℕ → List ℕ → List ℕ
changes zero rest buffer = buffer
changes (suc n) rest buffer = changes n (after_change rest) (change rest buffer)

-- what follows them in the record
unfoldable pub after_changes : ℕ → List ℕ → List ℕ
after_changes zero rest = rest
after_changes (suc n) rest = after_changes n (after_change rest)

-- a digest with one number more
unfoldable pub mix : ℕ → ℕ → ℕ
mix sum x = (31 * sum + x) % 2 ^ 64

-- the digest of numbers
unfoldable pub digest_of : List ℕ → ℕ
digest_of xs = fold mix 0 xs

-- what is written of a call: its numbers, and the digests of its two buffers, eight bytes each
unfoldable pub answer_of : List ℕ → List ℕ → List ℕ → List ℕ
answer_of numbers first second = flat_map (bytes 8) (numbers ++ digest_of first ∷ digest_of second ∷ [])

-- n calls, one after the other from a state and a record, each where the one before left both: the answer is Ok, or the error of the first that fails
unfoldable pub Calls : {F R E : Type 0} → (F → R → Result (Unit {0}) E → F → R → Type 0) → ℕ → F → R → Result (Unit {0}) E → Type 0
Calls called zero f x answer = answer ≡ Ok tt
Calls {F} {R} {E} called (suc n) f x answer =
    (a : Result (Unit {0}) E) × (g : F) × (y : R) × called f x a g y × MatchResult a (λ _. Calls called n g y answer) (λ e. answer ≡ Err e)

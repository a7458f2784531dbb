-- `plan::fields::bytes_in` meets its contract. Assumes nothing.
use Rattle.std.proofs.Common.{◌≡◌, ℕ, ◌-◌, Bool, ◌&&◌, leb, List, get_or}
use Rattle.plan.specs.Search.{every}
use Rattle.plan.specs.Fields.{bytes_in}
use Rattle.plan.proofs.fields.bytes_in.Given as goal

-- a byte of b is within lo and hi
abbrev pub within : List ℕ → ℕ → ℕ → ℕ → Bool
within b lo hi k = leb lo (get_or b k 0) && leb (get_or b k 0) hi

abbrev pub invariant-loop-k : goal.invariant-loop-k
invariant-loop-k l = (l.ok && every (within l.b l.lo l.hi) l.k (l.to - l.k)) ≡ bytes_in l.b l.from l.to l.lo l.hi

-- `book_reader::blocks::all_pass` meets its contract. Assumes nothing.
use mathlib.Core.Path.{◌≡◌}
use Prim.Native.Nat.{◌+◌, ◌-◌}
use Rattle.plan.specs.Search.{every}
use mathlib.Core.Bool.{Bool}
use mathlib.Core.List.{List}
use Prim.Native.Nat.{ℕ}
use Rattle.plan.specs.Blocks.{passes, block}
use Rattle.book_reader.proofs.blocks.all_pass.Given as goal

-- the block at the index k has the check of its place
abbrev pub passing : List ℕ → ℕ → Bool
passing b k = passes (k + 1) (block b k)

abbrev pub invariant-loop-k : goal.invariant-loop-k
invariant-loop-k l = every (passing l.book) l.k (l.n - l.k) ≡ every (passing l.book) 0 l.n

-- What the array of a `FixedVec` ends as, where its first elements are lent.
use Rattle.std.specs.Prelude.{ℕ, List, ◌++◌, drop}
use Rattle.std.specs.Borrow.{Lends, Fml, RattleType, MutBor, Array}
use Rattle.fixed_vec.specs.contracts.cells.Cells.{the_row}

module _ (T N : RattleType) (cells : MutBor (the_row T N).Denot) where
  -- it begins with what was written through r
  abbrev pub lends_front : ℕ → MutBor (List T.Denot) → Fml
  lends_front len r =
      Lends (the_row T N) (Array T 0) cells r (λ written. record { xs = written ++ drop len cells.now.xs })

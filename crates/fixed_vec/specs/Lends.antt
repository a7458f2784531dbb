-- What a `FixedVec` ends as, where its elements are lent.
use Rattle.std.specs.Prelude.{List}
use Rattle.std.specs.Borrow.{Lends, Fml, RattleType, MutBor, Array}
use Rattle.fixed_vec.specs.FixedVec.{FixedVec, with_items}
use Rattle.fixed_vec.specs.contracts.vector.FixedVec.{the_row}

module _ (T CAP : RattleType) (v : MutBor (FixedVec T.Denot)) where
  -- its elements are those that r shows last
  abbrev pub lends_slice : MutBor (List T.Denot) → Fml
  lends_slice r = Lends (the_row T CAP) (Array T 0) v r (with_items v.now)

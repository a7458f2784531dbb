-- Totals that are added up session by session are those of the list. Assumes nothing.
use mathlib.Core.Path.{◌≡◌, ◌∙◌}
use mathlib.Core.List.{List, [], ◌∷◌}
use Prim.Native.Nat.{ℕ, ◌+◌, ◌≤◌, ◌<◌}
use native.Mathlib.Nat.{add-zero, zero-add, add_assoc}
use native.Mathlib.Numerals.{add-one}
use native.Mathlib.Omega.{arith}
use lib.Dec.{eqb}
use lib.ListN.{length, get_or, drop}
use lib.Seq.{drop-cons}
use Rattle.charger.specs.Lists.{count}
use Rattle.charger.proofs.Lists.{tick_le}
use Rattle.curve.specs.F64.{ratio}
use Rattle.files.specs.declared.book_session.BookSession.{BookSession}
use Rattle.book_reader.specs.Totals.{of_outcome, energy_from, longest_from, totals_of}
use Rattle.book_reader.specs.Code.Sums.{added, added_up}
use Rattle.book_reader.specs.declared.totals.BookTotals.{BookTotals}

-- totals with those of a list behind them
abbrev more : BookTotals → List BookSession → BookTotals
more t xs =
    record {
      still_open = t.still_open + count (of_outcome 0) xs;
      charged = t.charged + count (of_outcome 1) xs;
      reneged = t.reneged + count (of_outcome 2) xs;
      balked = t.balked + count (of_outcome 3) xs;
      energy = energy_from t.energy xs;
      longest_wait = longest_from t.longest_wait xs;
    }

added_more : (t : BookTotals) (xs : List BookSession) → added_up t xs ≡ more t xs
unfolding added added_up energy_from longest_from
added_more t [] = simp add-zero
added_more t (x ∷ xs) = rw (added_more (added t x) xs) (simp add_assoc)

-- from nothing on
pub from_nothing : (xs : List BookSession)
    → added_up (record { still_open = 0; charged = 0; reneged = 0; balked = 0; energy = record { 0 = ratio 0 1 }; longest_wait = 0 }) xs ≡ totals_of xs
from_nothing xs = added_more _ xs ∙ simp zero-add

-- one session more
pub add_step : (t : BookTotals) (xs : List BookSession) (i : ℕ) (d : BookSession) → i < length xs → added_up t (drop i xs) ≡ added_up (added t (get_or xs i d)) (drop (i + 1) xs)
unfolding added_up
add_step t xs i d h = rw (drop-cons xs i d h, add-one)

-- no count exceeds the number of sessions
abbrev pub Within : BookTotals → ℕ → Type 0
Within t i = ((t.still_open ≤ i) × (t.charged ≤ i)) × ((t.reneged ≤ i) × (t.balked ≤ i))

pub added-within : (t r : BookTotals) (x : BookSession) (i : ℕ) → r ≡ added t x → Within t i → Within r (i + 1)
unfolding added
added-within t r x i e h =
    let o = x.outcome in
    rw e ((omega (arith, tick_le (eqb o 0)), omega (arith, tick_le (eqb o 1))), (omega (arith, tick_le (eqb o 2)), omega (arith, tick_le (eqb o 3))))

-- Refinement: totals, session by session.
use Rattle.std.specs.Prelude.{◌+◌, max, List, [], ◌∷◌}
use Rattle.charger.specs.Lists.{tick}
use Rattle.files.specs.declared.book_session.BookSession.{BookSession}
use Rattle.book_reader.specs.Totals.{of_outcome, energy_with}
use Rattle.book_reader.specs.declared.totals.BookTotals.{BookTotals}

-- totals with one session more
unfoldable pub added : BookTotals → BookSession → BookTotals
added t x =
    record {
      still_open = t.still_open + tick (of_outcome 0 x);
      charged = t.charged + tick (of_outcome 1 x);
      reneged = t.reneged + tick (of_outcome 2 x);
      balked = t.balked + tick (of_outcome 3 x);
      energy = energy_with t.energy x;
      longest_wait = max t.longest_wait x.wait;
    }

-- and with some more, in their order
unfoldable pub added_up : BookTotals → List BookSession → BookTotals
added_up t [] = t
added_up t (x ∷ xs) = added_up (added t x) xs

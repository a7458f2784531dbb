use mathlib.Core.Path.{◌≡◌, sym, ◌∙◌}
use mathlib.Core.List.{[]}
use native.Mathlib.Omega.{arith}
use lib.Ieee.{of_bits}
use Rattle.curve.specs.F64.{ratio}
use lib.ListN.{drop, drop_of_length-le}
use Rattle.book_reader.specs.Code.Sums.{added_up}
use Rattle.book_reader.proofs.totals.Laws.{from_nothing, add_step, added-within}
use Rattle.book_reader.proofs.totals.sum_up.Goals as goal

pub loop-x-init : goal.loop-x-init
unfolding of_bits ratio
loop-x-init c = (((omega arith, omega arith), (omega arith, omega arith)), from_nothing _)

pub loop-x-preserved : goal.loop-x-preserved
loop-x-preserved c =
    let i = c.loop-x.x-index in
    (added-within c.loop-x.t _ _ i c.add.ensures c.loop-x.invariant.0, rw c.add.ensures (sym (add_step c.loop-x.t c.as_slice-sessions.result.now i _ c.loop-x-test.true) ∙ c.loop-x.invariant.1))

pub returns : goal.returns
unfolding added_up
returns c =
    let sessions = c.as_slice-sessions.result.now in
    let e : drop c.loop-x.x-index sessions ≡ [] = drop_of_length-le sessions {i = c.loop-x.x-index} (omega arith) in
    rw c.as_slice-sessions.ensures.value at (rw e at c.loop-x.invariant.1)

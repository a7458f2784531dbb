-- `charger::current_of` meets its contract. Assumes nothing.
use mathlib.Core.Path.{sym, ap}
use lib.Ieee.{Float, of_bits}
use Rattle.curve.specs.F64.{ratio}
use Rattle.charger.proofs.charger.current_of.Goals as goal

pub returns-then-cap : goal.returns-then-cap
unfolding of_bits ratio
returns-then-cap c = simp (sym c.cap_of-cap.ensures, c.if-cap.true)

pub returns : goal.returns
unfolding of_bits ratio
returns c =
    simp (sym c.cap_of-cap.ensures, c.if-cap.false) (ap (λ (x : Float). record { 0 = x }) c.min.ensures)

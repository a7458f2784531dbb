use mathlib.Core.Path.{sym, ◌∙◌}
use native.Mathlib.Omega.{arith}
use Rattle.power.proofs.power.Passes.{cars_within}
use Rattle.power.proofs.alone.OneCar.{rounds_alone, rounds_free}
use Rattle.power.proofs.alone.charge_alone.Goals as goal

pub slice_copy_out-s : goal.slice_copy_out-s
slice_copy_out-s c = cars_within _ _ 0 c.requires.cars (omega arith)

pub offset_bounds-bank-i : goal.offset_bounds-bank-i
offset_bounds-bank-i c = omega (arith, slice_copy_out-s c)

pub returns-then-is_free : goal.returns-then-is_free
returns-then-is_free c = rounds_free _ _ _ _ _ c.requires.cars _ (sym c.is_free.ensures ∙ c.if-is_free.true)

pub returns : goal.returns
returns c =
    rounds_alone _ _ _ _ _ c.requires.cars _ _ _ (sym c.is_free.ensures ∙ c.if-is_free.false) c.rounds-spun.ensures

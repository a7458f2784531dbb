use mathlib.Core.Path.{◌≡◌}
use Prim.Native.Nat.{◌-◌}
use lib.ListN.{length}
use Rattle.charger.specs.Code.Profiles.{curve_in}
use Rattle.power.specs.Code.Rounds.{spin}
use Rattle.power.specs.Code.Bank.{Cars}
use Rattle.power.proofs.power.charge_together.Given as goal

abbrev pub invariant-loop-k : goal.invariant-loop-k
invariant-loop-k l =
    (length l.bank ≡ length l.initial.bank)
    × (spin l.limit (curve_in l.rising.profiles) l.k (l.count - l.k) l.bank ≡ spin l.limit (curve_in l.rising.profiles) 0 l.count l.initial.bank)
    × Cars l.bank l.busy

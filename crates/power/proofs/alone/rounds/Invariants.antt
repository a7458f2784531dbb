use mathlib.Core.Path.{◌≡◌}
use mathlib.Core.Bool.{true, false}
use mathlib.Core.List.{[], ◌∷◌}
use Prim.Native.Nat.{◌-◌}
use lib.Dec.{ltb}
use Rattle.charger.specs.Code.Profiles.{curve_in}
use Rattle.power.specs.ChargerState.{is_free}
use Rattle.power.specs.Code.Rounds.{spin}
use Rattle.power.specs.Code.Alone.{CapMatchesRequest}
use Rattle.power.proofs.alone.rounds.Given as goal

-- that of `charge_together`, over the one car; and its cap stays while it asks for the same
abbrev pub invariant-loop-k : goal.invariant-loop-k
invariant-loop-k l =
    (is_free l.s.status ≡ false)
    × (spin l.limit (curve_in l.rising.profiles) l.k (l.count - l.k) (l.s ∷ []) ≡ spin l.limit (curve_in l.rising.profiles) 0 l.count (l.initial.s ∷ []))
    × (ltb 0 l.k ≡ true → CapMatchesRequest l.limit l.s)

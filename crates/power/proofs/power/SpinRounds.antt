-- One round of `spin` at a time.
use mathlib.Core.Path.{◌≡◌}
use mathlib.Core.Bool.{true, false}
use mathlib.Core.List.{List}
use Prim.Native.Nat.{ℕ, suc, ◌+◌, ◌-◌, ◌<◌}
use native.Mathlib.Omega.{arith}
use Rattle.curve.specs.declared.points.Point.{Point}
use Rattle.power.specs.declared.charger_state.ChargerState.{ChargerState}
use Rattle.power.specs.declared.power.Limit.{Limit}
use Rattle.power.specs.Power.{charge}
use Rattle.power.specs.Code.Rounds.{any_finished, spin}

module _ (limit : Limit) (curve : ℕ → List Point) (k count : ℕ) (ss : List ChargerState) where
  pub spin-finished : k < count → any_finished false (charge limit curve ss) ≡ true
      → spin limit curve k (count - k) ss ≡ record { states = charge limit curve ss; rounds = k + 1; any = true }
  spin-finished h f =
      let e : count - k ≡ suc (count - (k + 1)) = omega arith in
      rw (e, f)

  pub spin_more : k < count → any_finished false (charge limit curve ss) ≡ false
      → spin limit curve k (count - k) ss ≡ spin limit curve (k + 1) (count - (k + 1)) (charge limit curve ss)
  spin_more h f =
      let e : count - k ≡ suc (count - (k + 1)) = omega arith in
      rw (e, f)

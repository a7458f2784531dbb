-- The bytes of a longer plan: how many there are, and what follows its header. Assumes nothing.
use mathlib.Core.Path.{◌≡◌, ◌∙◌}
use mathlib.Core.List.{List, ◌++◌}
use Prim.Native.Nat.{ℕ, ◌+◌, ◌-◌, ◌≤◌}
use native.Mathlib.Omega.{arith}
use lib.ListN.{length, drop, length-append, length-drop}
use lib.Seq.{drop-drop, drop-append-le}
use Rattle.plan.specs.Places.{vehicle_count}
use Rattle.plan.proofs.header.Laws.{length_header, header_dropped}
use Rattle.late_booking.specs.LongerPlan.{longer}

module _ (plan car : List ℕ) (long : 512 ≤ length plan) where
  pub length-longer : length (longer plan car) ≡ length plan + length car
  unfolding longer
  length-longer = rw (length-append, length_header (vehicle_count plan + 1) plan long, length-append, length-drop) (omega arith)

  -- what is left of the plan, and the car
  pub rest_of : (n : ℕ) → 512 ≤ n → n ≤ length plan → drop n (longer plan car) ≡ drop n plan ++ car
  unfolding longer
  rest_of n a b =
      let m : ℕ = n - 512 in
      let e : n ≡ 512 + m = omega arith in
      let behind = header_dropped (vehicle_count plan + 1) plan long (drop 512 plan ++ car) m in
      rw e (behind ∙ rw (drop-append-le m (drop 512 plan) car (omega (arith, length-drop 512 plan)), drop-drop))

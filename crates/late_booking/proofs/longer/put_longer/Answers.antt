-- `late_booking::longer::put_longer` meets its contract. Assumes nothing.
use mathlib.Core.Path.{◌≡◌, ap, ◌∙◌}
use Prim.Native.Nat.{ℕ, ◌+◌}
use native.Mathlib.Omega.{arith}
use lib.ListN.{length}
use lib.Seq.{sets}
use Rattle.plan.specs.Header.{header_counting}
use Rattle.late_booking.proofs.longer.Stored.{stored}
use Rattle.late_booking.proofs.longer.put_longer.Goals as goal

pub returns : goal.returns
returns c =
    let plan = c.args.plan.now in
    let long = ap length c.plan.view_is in
    let car : length c.args.car.now ≡ 512 = omega arith in
    let header = c.put_header.ensures ∙ ap (λ (v : ℕ). sets c.args.s.now 0 (header_counting (v + 1) plan)) c.vehicle_count.ensures.0 in (
      omega (arith, long, c.requires.room, c.put_header.auto, c.put_bytes.auto, c.put_bytes-2.auto),
      rw long
          (rw car at (stored c.args.s.now plan c.args.car.now _ _ _ (omega (arith, long, c.plan.invariant)) (omega (arith, c.requires.room)) header (rw c.plan.view_is at c.put_bytes.ensures) (rw long at c.put_bytes-2.ensures))),
    )

-- `practice::practice_plan::put_cars` meets its contract. Assumes nothing.
use Rattle.std.proofs.Common.{◌≡◌, ◌+◌, ◌-◌, ◌*◌, length, ◌∙◌, refl, add-zero, arith}
use native.Mathlib.Nat.{sub-zero}
use lib.Seq.{sets}
use Rattle.plan.specs.Bytes.{pieces}
use Rattle.plan.proofs.bytes.Laws.{pieces_step}
use Rattle.practice.specs.Xorshift.{draw}
use Rattle.practice.specs.PracticePlan.{car_block}
use Rattle.practice.proofs.xorshift.Laws.{draw_add}
use Rattle.practice.proofs.practice_plan.Stored.{length-car_block}
use Rattle.practice.proofs.practice_plan.put_cars.Goals as goal

pub loop-i-init : goal.loop-i-init
unfolding draw
loop-i-init c = record { long = refl; drawn = refl; left = rw (add-zero, sub-zero) }

pub loop-i-preserved : goal.loop-i-preserved
unfolding car_block
loop-i-preserved c =
    let vehicle = c.args.vehicle.now in
    let seed = c.args.seed in
    let i = c.loop-i.i in
    let long : length vehicle ≡ 512 = omega arith in
    let f = car_block vehicle seed c.args.place in
    let drawn = c.draw_car-drawn.ensures in
    let three : 3 * i + 3 ≡ 3 * (i + 1) = omega arith in
    let put : c.put_car.new.s ≡ sets c.loop-i.s (c.args.at + 512 * i) (f i) = c.put_car.ensures ∙ rw (drawn.arrival, drawn.start, drawn.target, c.loop-i.invariant.drawn, draw_add seed (3 * i) 1, draw_add seed (3 * i) 2, draw_add seed (3 * i) 3, c.from.ensures) in
    record {
      long = omega (arith, c.loop-i.invariant.long);
      drawn = drawn.state ∙ rw (c.loop-i.invariant.drawn, draw_add seed (3 * i) 3, three);
      left =
          rw put
          (pieces_step f 512 (length-car_block vehicle long seed c.args.place) c.loop-i.s (sets c.args.s.now c.args.at (pieces f 0 c.args.count)) c.args.at i c.args.count i (omega arith) c.loop-i.invariant.left);
    }

pub returns : goal.returns
unfolding pieces
returns c =
    let e : c.args.count - c.loop-i.i ≡ 0 = omega arith in
    rw e at c.loop-i.invariant.left

use Rattle.std.proofs.Common.{append-nil, arith}
use mathlib.Core.List.{append_assoc}
use Rattle.charger.proofs.Lists.{all_at}
use Rattle.engine.specs.Discrete.{no_car, car}
use Rattle.dump.specs.Code.Dumping.{NearCar}
use Rattle.dump.proofs.header.Laws.{busy_step}
use Rattle.dump.proofs.header.busy_blocks.Goals.{in-Some, in_default}
use Rattle.dump.proofs.header.busy_blocks.Goals as goal

pub place_of-requires-in-Some : goal.place_of-requires-in-Some
place_of-requires-in-Some c = rw c.in-Some.is at (all_at {P = NearCar} c.args.places.now c.loop-c.c no_car c.loop-c-test.true c.requires.near)

pub loop-c-preserved : goal.loop-c-preserved
loop-c-preserved c =
    let step = busy_step c.args.plan.now c.args.places.now c.loop-c.c in
    elim c.match-who.branch [
      | in-Some w ↦ record {
        few = rw w.blocks-is (omega (arith, w.push.ensures.len, w.push-in-Some.ensures.len, c.loop-c.invariant.few));
        so_far =
            step (car w.in-Some.car) _ _ c.loop-c-test.true w.in-Some.is c.loop-c.invariant.so_far
            (rw (w.blocks-is, w.push-in-Some.ensures.items, w.push.ensures.items, w.place_of.ensures, w.place_of-in-Some.ensures, append_assoc));
      }
      | in_default w ↦ record {
        few = rw w.blocks-is (omega (arith, c.loop-c.invariant.few));
        so_far = step no_car _ _ c.loop-c-test.true w.in_default.is c.loop-c.invariant.so_far (rw (w.blocks-is, append-nil));
      }
    ]

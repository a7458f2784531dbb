-- `practice::practice_plan::put_car` meets its contract. Assumes nothing.
use Rattle.std.proofs.Common.{◌≡◌, length, arith}
use Rattle.practice.proofs.practice_plan.Stored.{car_stored}
use Rattle.practice.proofs.practice_plan.put_car.Goals as goal

pub returns : goal.returns
returns c =
    let long : length c.args.vehicle.now ≡ 512 = omega arith in
    car_stored c.args.vehicle.now long c.args.s.now _ _ _ _ _ _ _ _ c.args.at c.args.place c.args.id c.args.drawn.start c.args.drawn.target c.args.drawn.arrival c.requires
    c.put.ensures c.put_bytes.ensures (rw c.to_bits.ensures at c.put-2.ensures) (rw c.to_bits-2.ensures at c.put-3.ensures) c.put_bytes-2.ensures c.put-4.ensures c.put_bytes-3.ensures
    c.seal.ensures

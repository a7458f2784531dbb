-- `practice::practice_plan::put_practice_plan` meets its contract. Assumes nothing.
use Rattle.std.proofs.Common.{◌≡◌, ◌*◌, arith}
use Rattle.practice.specs.PracticePlan.{cars_at}
use Rattle.practice.proofs.practice_plan.Stored.{plan_stored}
use Rattle.practice.proofs.practice_plan.put_practice_plan.Goals as goal

pub returns : goal.returns
returns c =
    let file = c.args.plan.now.file in
    let blocks = c.args.plan.now.counted.blocks in
    let first = c.start_of-first.ensures in
    let at : 512 * c.start_of-first.result ≡ cars_at file = omega (arith, first) in
    plan_stored file c.args.s.now _ _ _ c.args.seed c.args.count _ _ (omega (arith, blocks)) first.0 at c.put_header.ensures (rw c.file.view_is at c.put_bytes.ensures)
    (rw c.block_of.ensures at c.put_cars.ensures)

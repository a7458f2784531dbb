-- `panel::panel::Panel::vehicle_id` meets its contract. Assumes nothing.
use Rattle.std.proofs.Common.{arith}
use Rattle.files.proofs.Accepted.{counted}
use Rattle.panel.proofs.panel.Panel.vehicle_id.Goals as goal

pub invariant_of-plan : goal.invariant_of-plan
invariant_of-plan c = omega (arith, counted c.args.self.now.loaded.plan.now c.args.self.now.loaded.loaded.admitted)

pub invariant_of-plan-2 : goal.invariant_of-plan-2
invariant_of-plan-2 c = record { counted = counted c.args.self.now.loaded.plan.now c.args.self.now.loaded.loaded.admitted }

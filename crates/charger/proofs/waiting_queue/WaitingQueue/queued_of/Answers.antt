-- `waiting_queue::WaitingQueue::queued_of` meets its contract. Assumes nothing.
use Rattle.std.proofs.Common.{◌≡◌, ◌∙◌, rules}
use Rattle.std.specs.Prelude.{count_by}
use Rattle.charger.specs.Fleet.{of_fleet, queued_of}
use Rattle.charger.specs.Code.Queue.{waiting}
use Rattle.charger.specs.Code.Vehicles.{listed}
use Rattle.charger.proofs.Lists.{count_by_is}
use Rattle.charger.proofs.waiting_queue.WaitingQueue.queued_of.Goals as goal

pub returns : goal.returns
unfolding queued_of
returns c =
    let counted : c.count.result ≡ count_by (of_fleet (listed c.args.vehicles.now) c.args.fleet) (waiting c.args.self.now) = search rules in
    counted ∙ count_by_is _ _

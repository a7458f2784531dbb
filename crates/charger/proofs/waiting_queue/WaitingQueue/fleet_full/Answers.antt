-- `waiting_queue::WaitingQueue::fleet_full` meets its contract. Assumes nothing.
use borrow.Author.Tests.{le-leb}
use native.Mathlib.Omega.{arith}
use Rattle.charger.specs.Fleet.{fleet_full}
use Rattle.charger.proofs.waiting_queue.WaitingQueue.fleet_full.Goals as goal

pub returns-then-fleet-eq0 : goal.returns-then-fleet-eq0
unfolding fleet_full
returns-then-fleet-eq0 c = rw c.if-fleet-eq0.true

pub returns : goal.returns
unfolding fleet_full
returns c = rw (c.places_of-places.ensures, c.queued_of.ensures, le-leb 1 c.args.fleet (omega arith))

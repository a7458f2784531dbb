-- `files::book_session::entries` meets its contract. Assumes nothing.
use Rattle.std.proofs.Common.{◌≡◌, map, length, take}
use Rattle.charger.specs.Lists.{All}
use Rattle.charger.specs.Code.Vehicles.{listed}
use Rattle.files.specs.BookSession.{entry, Fits}
use Rattle.engine.specs.Code.Simulation.{connectors_of}
use Rattle.files.proofs.book_session.entries.Given as goal

abbrev pub invariant-loop-x : goal.invariant-loop-x
invariant-loop-x l = record {
  many : length l.all.items ≡ l.x-index;
  so_far : l.all.items ≡ map (entry l.plan.file (listed l.site.vehicles) (connectors_of l.site)) (take l.x-index l.sessions);
  fit : All Fits l.all.items;
}

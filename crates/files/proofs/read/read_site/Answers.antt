-- `files::read::read_site` meets its contract: field by field, the plan of the site is the one that is read.
use Rattle.std.proofs.Common.{◌≡◌, length, take}
use Rattle.plan.specs.Places.{charger_count, charger_block}
use Rattle.plan.proofs.SearchLaws.{length-each}
use Rattle.files.specs.Read.{charger_of, chargers_of, connector_rows}
use Rattle.files.proofs.read.read_site.Goals as goal

pub returns : goal.returns
unfolding chargers_of
returns c =
    let plan = c.args.plan.now.file in
    let rows = c.read_connectors-site.result in
    let many : length c.read_chargers.new.chargers.items ≡ charger_count plan = rw c.read_chargers.ensures (length-each (λ j. charger_of (charger_block plan j)) 0 (charger_count plan)) in
    let connectors : take (length c.read_chargers.new.chargers.items) rows ≡ connector_rows plan = rw many c.read_connectors-site.ensures in
    λ i. record {
      limit = c.read_limit-site.ensures i;
      curve = λ k. c.read_curves.ensures k i;
      battery = λ k. c.read_batteries-site.ensures k i;
      chargers = c.read_chargers.ensures i;
      connectors = connectors i;
      vehicles = c.read_vehicles.ensures.vehicles i;
      queue_places = c.read_vehicles.ensures.places i;
    }

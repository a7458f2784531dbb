use Rattle.charger.proofs.Lists.{all_at}
use Rattle.dump.specs.Code.Dumping.{Near}
use Rattle.dump.proofs.header.queue_blocks.Goals as goal

pub place_of-requires : goal.place_of-requires
place_of-requires c =
    let queue = c.deref-v-items.result.now in
    all_at {P = Near} queue c.loop-v.v-index 0 c.loop-v-test.true (rw c.deref-v-items.ensures.0 c.requires)

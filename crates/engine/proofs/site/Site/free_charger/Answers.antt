-- `engine::site::Site::free_charger` meets its contract: it goes on past a charger that is not free, or does not fit. Assumes nothing.
use Rattle.std.proofs.Common.{rules, true, false}
use Rattle.engine.proofs.site.Places.{one_more}
use Rattle.engine.proofs.site.Site.free_charger.Goals as goal
use Rattle.engine.proofs.site.Site.free_charger.Goals.{else-free-via-then-free+else-fits, else-free-via-else-free}

pub loop-c-preserved : goal.loop-c-preserved
loop-c-preserved g c =
    one_more c.loop-c.c c.loop-c.invariant
    (elim c.else-free.branch [
      | else-free-via-then-free+else-fits w ↦ (true, search rules, search rules)
      | else-free-via-else-free w ↦ (false, search rules, search rules)
    ])

-- `files::pairs::failing_charger` meets its contract. Assumes nothing.
use Rattle.std.proofs.Common.{◌≡◌, ◌-◌, length}
use Rattle.engine.specs.Code.Simulation.{plan_of}
use Rattle.plan.specs.Search.{first_index}
use Rattle.files.specs.Pairs.{fails_at, failing_charger}
use Rattle.files.proofs.pairs.failing_charger.Given as goal

abbrev pub invariant-loop-c : goal.invariant-loop-c
invariant-loop-c l = first_index (fails_at (plan_of l.site) l.v) l.c (length l.site.chargers.items - l.c) ≡ failing_charger (plan_of l.site) l.v

-- `files::pairs::failing_pair` meets its contract. Assumes nothing.
use Rattle.std.proofs.Common.{◌≡◌, ◌-◌, length}
use Rattle.engine.specs.Code.Simulation.{plan_of}
use Rattle.plan.specs.Search.{first_index}
use Rattle.files.specs.Pairs.{fails_somewhere}
use Rattle.files.proofs.pairs.failing_pair.Given as goal

abbrev pub invariant-loop-v : goal.invariant-loop-v
invariant-loop-v l =
    let p = plan_of l.site in
    let n = length p.vehicles in
    first_index (fails_somewhere p) l.v (n - l.v) ≡ first_index (fails_somewhere p) 0 n

-- `engine::site::Site::free_charger` meets its contract. The loop's invariant: no charger before c is free and fits. Assumes nothing.
use Rattle.std.proofs.Common.{ℕ, ◌<◌, false}
use Rattle.engine.specs.Code.Simulation.{connectors_of, Takes}
use Rattle.engine.proofs.site.Site.free_charger.Given as goal

abbrev pub invariant-loop-c : goal.invariant-loop-c
invariant-loop-c g l = (k : ℕ) → k < l.c → Takes (goal.F-post g l.free) (connectors_of l.self) l.vehicle k false

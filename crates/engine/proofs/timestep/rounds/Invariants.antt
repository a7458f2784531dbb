-- `engine::timestep::rounds` meets its contract.
use Rattle.std.proofs.Common.{◌+◌, ◌-◌}
use Rattle.engine.proofs.timestep.LoopRun.{Going}
use Rattle.engine.proofs.timestep.rounds.Given as goal

abbrev pub invariant-loop-run : goal.invariant-loop-run
invariant-loop-run l = Going l.rising.site.now l.count l.initial.run l.run

abbrev pub decreases-loop-run : goal.decreases-loop-run
decreases-loop-run l = l.initial.run.time + l.count - l.run.time

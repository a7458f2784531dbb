-- `panel::script::within_allowance` meets its contract. The loop's invariant: what is summed, and what is left to sum.
use Rattle.std.proofs.Common.{◌≡◌, ◌+◌, ◌≤◌}
use Rattle.panel.proofs.script.Rounds.{left}
use Rattle.panel.proofs.script.within_allowance.Given as goal

abbrev pub invariant-loop-x : goal.invariant-loop-x
invariant-loop-x l =
    record {
      few : l.sum ≤ 10000000;
      left : l.sum + left l.x-index l.script ≡ left 0 l.script;
    }

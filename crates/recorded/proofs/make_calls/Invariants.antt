-- `recorded::make_calls` meets its contract. Assumes nothing.
use Rattle.std.proofs.Common.{◌-◌}
use Rattle.std.specs.Fn.{CalledAtMut}
use Rattle.recorded.specs.Replay.{Calls}
use Rattle.recorded.proofs.make_calls.Given as goal

abbrev pub invariant-loop : goal.invariant-loop
invariant-loop g l =
    goal.F-IsAlwaysCallable g l.call
    × ((r : _) → Calls (λ f x a f' y. CalledAtMut g.F.FnMut f x a f' y) (l.calls - l.counter) l.call l.next r
    → Calls (λ f x a f' y. CalledAtMut g.F.FnMut f x a f' y) l.calls l.initial.call l.initial.next r)

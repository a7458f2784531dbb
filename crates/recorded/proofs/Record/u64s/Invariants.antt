-- `recorded::Record::u64s` meets its contract. Assumes nothing.
use Rattle.std.proofs.Common.{◌≡◌, ◌*◌, drop, take}
use Rattle.recorded.specs.Replay.{u64s}
use Rattle.recorded.proofs.Record.u64s.Given as goal

abbrev pub invariant-loop-x : goal.invariant-loop-x
invariant-loop-x l =
    (take l.x-index l.buffer ≡ u64s l.x-index l.initial.self.rest.now) × (l.self.rest.now ≡ drop (8 * l.x-index) l.initial.self.rest.now)

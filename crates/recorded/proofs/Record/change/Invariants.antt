-- `recorded::Record::change` meets its contract. Assumes nothing.
use Rattle.std.proofs.Common.{◌≡◌, ◌-◌}
use Rattle.recorded.specs.Replay.{after_changes, changes}
use Rattle.recorded.proofs.Record.change.Given as goal

abbrev pub invariant-loop : goal.invariant-loop
invariant-loop l =
    (changes (l.changes - l.counter) l.self.rest.now l.buffer ≡ changes l.changes l.initial.self.rest.now l.initial.buffer)
    × (after_changes (l.changes - l.counter) l.self.rest.now ≡ after_changes l.changes l.initial.self.rest.now)

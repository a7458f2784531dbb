use mathlib.Core.Path.{sym}
use Rattle.power.proofs.power.Free.{spin_none}
use Rattle.power.proofs.power.Gaps.{no_cars}
use Rattle.power.proofs.rounds.charge_until.Goals as goal

pub returns-in-empty : goal.returns-in-empty
returns-in-empty c = sym (spin_none _ _ _ _ (no_cars _ _ (rw c.as_slice.ensures.value at c.in-empty.len_below) c.busy_places-busy.ensures))

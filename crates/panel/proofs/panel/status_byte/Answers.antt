-- `panel::panel::status_byte` meets its contract. Assumes nothing.
use Rattle.std.proofs.Common.{refl}
use Rattle.panel.proofs.panel.status_byte.Goals as goal

pub returns-in-Free : goal.returns-in-Free
returns-in-Free c = rw c.in-Free.is refl

pub returns-in-Charging : goal.returns-in-Charging
returns-in-Charging c = rw c.in-Charging.is refl

pub returns-in-Idle : goal.returns-in-Idle
returns-in-Idle c = rw c.in-Idle.is refl

pub returns-in-Finished : goal.returns-in-Finished
returns-in-Finished c = rw c.in-Finished.is refl

use mathlib.Core.Path.{◌≡◌}
use lib.ListN.{take}
use Rattle.power.specs.Code.Deal.{watts_at}
use Rattle.power.proofs.even_shares.ask.Given as goal

-- those passed have what they ask for
abbrev pub invariant-loop-i : goal.invariant-loop-i
invariant-loop-i l = l.watts.items ≡ watts_at l.bank (take l.i-index l.busy)

-- `plan::plan::all_new` meets its contract. Assumes nothing.
use Rattle.std.proofs.Common.{◌≡◌, ℕ, ◌-◌, Bool, List, length, take, get_or}
use lib.Ieee.{Float, nan}
use Rattle.plan.specs.Search.{every}
use Rattle.plan.specs.Code.Socs.{new_among}
use Rattle.plan.proofs.plan.all_new.Given as goal

-- the i-th SOC is a new one
abbrev pub new_at : List Float → ℕ → Bool
new_at socs i = new_among (take i socs) (get_or socs i nan)

abbrev pub invariant-loop-i : goal.invariant-loop-i
invariant-loop-i l = every (new_at l.socs) l.i (length l.socs - l.i) ≡ every (new_at l.socs) 0 (length l.socs)

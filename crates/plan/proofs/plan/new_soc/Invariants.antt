-- `plan::plan::new_soc` meets its contract. Assumes nothing.
use Rattle.std.proofs.Common.{◌≡◌, ℕ, ◌-◌, Bool, not, ◌&&◌, List, length, get_or}
use lib.Ieee.{Float, nan, eq}
use Rattle.plan.specs.Search.{every}
use Rattle.plan.specs.Code.Socs.{new_among}
use Rattle.plan.proofs.plan.new_soc.Given as goal

-- the j-th SOC is another
abbrev pub other : List Float → Float → ℕ → Bool
other socs soc j = not (eq (get_or socs j nan) soc)

abbrev pub invariant-loop-x : goal.invariant-loop-x
invariant-loop-x l = (l.new && every (other l.before l.soc) l.x-index (length l.before - l.x-index)) ≡ new_among l.before l.soc

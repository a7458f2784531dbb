-- `plan::ids::with_id` meets its contract. Assumes nothing.
use Rattle.std.proofs.Common.{◌≡◌, ℕ, ◌-◌, Bool, eqb, List}
use Rattle.plan.specs.Search.{first_index}
use Rattle.plan.specs.Plan.{id_at, with_id}
use Rattle.plan.proofs.ids.with_id.Given as goal

-- the block at j has the id
abbrev pub has : List ℕ → ℕ → ℕ → Bool
has plan id j = eqb (id_at plan j) id

abbrev pub invariant-loop-j : goal.invariant-loop-j
invariant-loop-j l = first_index (has l.plan l.id) l.j (l.to - l.j) ≡ with_id l.plan l.from l.to l.id

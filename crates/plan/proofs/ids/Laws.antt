-- Laws of the search for an id. Assumes nothing.
use Rattle.std.proofs.Common.{◌≡◌, ℕ, ◌-◌, ◌≤◌, eqb, List, inl, inr, arith, eq-or-lt_of_le, le-ltb, lt-ltb}
use Rattle.std.specs.Option.{unwrap_or}
use Rattle.plan.specs.Search.{short_of}
use Rattle.plan.specs.Plan.{id_at, with_id}
use Rattle.plan.proofs.SearchLaws.{first_from, first_to}

-- a search begins at its start
pub with_id_from : (plan : List ℕ) (from to id : ℕ) → from ≤ with_id plan from to id
unfolding with_id
with_id_from plan from to id = first_from (λ j. eqb (id_at plan j) id) from (to - from)

-- and does not go past its end
pub with_id_to : (plan : List ℕ) (from to id : ℕ) → from ≤ to → with_id plan from to id ≤ to
unfolding with_id
with_id_to plan from to id h = omega (arith, first_to (λ j. eqb (id_at plan j) id) from (to - from))

-- what is found, or the end where nothing is
pub found_or_end : (k end : ℕ) → k ≤ end → unwrap_or (short_of k end) end ≡ k
found_or_end k end h = elim (eq-or-lt_of_le h) [
  | inl p ↦ rw (le-ltb k end (omega arith)) (omega arith)
  | inr q ↦ rw (lt-ltb k end q)
]

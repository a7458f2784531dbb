-- Rules. The first index with a property, every index with one, and what a function gives at each index, by computation.
use Rattle.std.specs.Prelude.{ℕ, zero, suc, nat_lt, Bool, true, cond, ◌&&◌, Option, Some, None, List, [], ◌∷◌}

-- the first of the m indices from k on at which f holds, or k + m where it holds at none
unfoldable pub first_index : (ℕ → Bool) → ℕ → ℕ → ℕ
first_index f k zero = k
first_index f k (suc m) =
    let next : ℕ = first_index f (suc k) m in
    cond (f k) k next

-- the index k, if it is short of the end
abbrev pub short_of : ℕ → ℕ → Option ℕ
short_of k end = cond (nat_lt k end) (Some k) None

-- f holds at each of the m indices from k on
unfoldable pub every : (ℕ → Bool) → ℕ → ℕ → Bool
every f k zero = true
every f k (suc m) = f k && every f (suc k) m

-- t holds, and each of some tests
abbrev pub and_hold : Bool → List Bool → Bool
and_hold t [] = t
and_hold t (u ∷ us) = and_hold (t && u) us

-- each of some tests holds
abbrev pub holds : List Bool → Bool
holds [] = true
holds (t ∷ ts) = and_hold t ts

-- what f gives at each of the m indices from k on
unfoldable pub each : {A : Type 0} → (ℕ → A) → ℕ → ℕ → List A
each f k zero = []
each f k (suc m) = f k ∷ each f (suc k) m

-- Rules. Counting over a list, and "every member".
use Rattle.std.specs.Prelude.{Bool, true, false, List, [], ◌∷◌, ℕ, ◌+◌}

abbrev pub tick : Bool → ℕ
tick true = 1
tick false = 0

-- how many members of a list pass the test
abbrev pub count : {A : Type 0} → (A → Bool) → List A → ℕ
count test [] = 0
count test (x ∷ xs) = tick (test x) + count test xs

-- every member of a list has the property
pub data All {A : Type 0} (P : A → Type 0) : List A → Type 0 where
  none : All P []
  also : {x : A} {xs : List A} → P x → All P xs → All P (x ∷ xs)

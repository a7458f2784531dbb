-- Laws of `part i n l`, the members of l from i up to n, as a loop over an array meets them. They hold for members of any type.
use mathlib.Core.Path.{◌≡◌, refl, sym, ◌∙◌}
use mathlib.Core.List.{List, [], ◌∷◌, ◌++◌}
use Prim.Native.Nat.{ℕ, zero, suc, ◌+◌, ◌≤◌, ◌<◌}
use native.Mathlib.Numerals.{add-one}
use native.Mathlib.Nat.{not-suc-le-zero, le_of_suc-le-suc}
use native.Mathlib.Omega.{arith}
use lib.ListN.{length, get_or, take, drop, set, length-take, length-drop, take-append-drop, drop_of_length-le}
use lib.Seq.{length-take-le, take-append-le, drop-append-le, drop-cons, get_or-take, take-suc-set, take-suc}
use Rattle.charger.specs.Code.Queue.{part}

module _ {A : Type 0} where
  -- while i is below both ends, the part has a member, at i
  pub part_next : (l : List A) (i n : ℕ) (d : A) → i < n → i < length l → part i n l ≡ get_or l i d ∷ part (i + 1) n l
  part_next l i n d h k =
      rw (add-one, drop-cons (take n l) i d (simp length-take (omega arith)), get_or-take n l i d h)

  -- and from either end on it has none
  pub part_end : (l : List A) (i n : ℕ) → n ≤ i → part i n l ≡ []
  part_end l i n h = drop_of_length-le (take n l) {i = i} (simp length-take (omega arith))

  -- inside a list the default says nothing
  pub get_d_any : (l : List A) (i : ℕ) (d e : A) → i < length l → get_or l i d ≡ get_or l i e
  get_d_any [] i d e h = absurd (not-suc-le-zero h)
  get_d_any (x ∷ l) zero d e h = refl
  get_d_any (x ∷ l) (suc i) d e h = get_d_any l i d e (le_of_suc-le-suc h)

  -- one member more, at the code's i + 1
  pub take_more : (l : List A) (i : ℕ) (d : A) → i < length l → take (i + 1) l ≡ take i l ++ (get_or l i d ∷ [])
  take_more l i d h = rw add-one (take-suc l i d h)

  pub take-set : (l : List A) (i : ℕ) (v : A) → i < length l → take (i + 1) (set l i v) ≡ take i l ++ (v ∷ [])
  take-set l i v h = rw add-one (take-suc-set l i v h)

module _ {A : Type 0} where
  -- what lies within the first of two lists
  pub within_first : (l rest : List A) (j n : ℕ) → j + n ≤ length l → take n (drop j (l ++ rest)) ≡ take n (drop j l)
  within_first l rest j n h = rw (drop-append-le j l rest (omega arith), take-append-le n (drop j l) rest (omega (arith, length-drop j l)))

  -- what lies before the place a stays, whatever follows from there on
  pub before_stays : (xs rest : List A) (a j n : ℕ) → j + n ≤ a → a ≤ length xs → take n (drop j (take a xs ++ rest)) ≡ take n (drop j xs)
  before_stays xs rest a j n h g =
      let long : length (take a xs) ≡ a = length-take-le a xs g in
      within_first (take a xs) rest j n (omega arith) ∙ sym (within_first (take a xs) (drop a xs) j n (omega arith)) ∙ rw take-append-drop

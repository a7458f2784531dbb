-- The place where a search by `position` stops, and the list without it, are what `first` finds.
use mathlib.Core.Path.{◌≡◌, refl, sym, ap, ◌∙◌}
use mathlib.Core.Bool.{Bool, true, false, cond, not}
use mathlib.Core.List.{List, [], ◌∷◌}
use Prim.Native.Nat.{ℕ, suc, ◌+◌}
use native.Mathlib.Numerals.{add-one}
use Rattle.std.proofs.Math.Nat.{add_comm}
use native.Mathlib.Omega.{arith}
use borrow.Author.Tests.{lt-ltb}
use lib.Dec.{ltb, leb-suc-suc}
use lib.ListN.{length, get_or}
use Rattle.std.specs.Prelude.{Option, Some, None, position}
use Rattle.std.specs.List.{position_or_len, remove}
use Rattle.charger.specs.Code.Queue.{Taken}
use Rattle.charger.specs.First.{Found, nobody, found, behind, found_or, first}

-- what stands where a search by length stops, if it stops before the end
abbrev pub at_stop : (ℕ → Bool) → List ℕ → ℕ → Found
at_stop test l d =
    let i = position_or_len test l in
    cond (ltb i (length l)) (found (get_or l i d) (remove l i)) nobody

behind_cond : (b : Bool) (x y : ℕ) (l : List ℕ) → behind x (cond b (found y l) nobody) ≡ cond b (found y (x ∷ l)) nobody
behind_cond true x y l = refl
behind_cond false x y l = refl

pub first_at : (test : ℕ → Bool) (l : List ℕ) (d : ℕ) → first test l ≡ at_stop test l d
first_at test [] d = refl
first_at test (x ∷ xs) d = go (test x) (first_at test xs d)
  where
    n : ℕ
    n = position_or_len test xs

    at : ℕ → Found
    at i = cond (ltb i (suc (length xs))) (found (get_or (x ∷ xs) i d) (remove (x ∷ xs) i)) nobody

    go : (b : Bool) → first test xs ≡ at_stop test xs d → found_or b x xs (first test xs) ≡ at (cond (not b) (1 + n) 0)
    go true e = rw (lt-ltb 0 (suc (length xs)) (omega arith))
    go false e = rw (e, add_comm 1 n, add-one n, leb-suc-suc (suc n) (length xs)) (behind_cond (ltb n (length xs)) x (get_or xs n d) (remove xs n))

module _ (test : ℕ → Bool) (l : List ℕ) where
  abbrev n : ℕ
  n = position_or_len test l

  abbrev stopped : Bool → ℕ → Found
  stopped b d = cond b (found (get_or l n d) (remove l n)) nobody

  -- nobody passes
  pub missed : (r : Option ℕ) → position test l ≡ None → r ≡ None → Taken (first test l) l l r
  missed r e q = rw q (record { found = sym (go (ltb n (length l)) e (first_at test l 0)); shorter = tt; kept = refl })
    where
      go : (b : Bool) → cond b (Some n) None ≡ None → first test l ≡ stopped b 0 → first test l ≡ nobody
      go true e h = absurd (cc)
      go false e h = h

  -- or the search stops at somebody
  pub met : (i v : ℕ) (rest : List ℕ) → position test l ≡ Some i → v ≡ get_or l i v → rest ≡ remove l i → length rest + 1 ≡ length l → Taken (first test l) l rest (Some v)
  met i v rest e h q k = record { found = sym (go (ltb n (length l)) e (first_at test l v)); shorter = k; kept = tt }
    where
      go : (b : Bool) → cond b (Some n) None ≡ Some i → first test l ≡ stopped b v → first test l ≡ found v rest
      go true e k =
          let p : n ≡ i = cc in
          k ∙ ap (λ (j : ℕ). found (get_or l j v) (remove l j)) p ∙ ap (λ (w : ℕ). found w (remove l i)) (sym h) ∙ ap (found v) (sym q)
      go false e k = absurd (cc)

-- The list of the places below n, as a search of the places meets it, and those that are free.
use Rattle.std.proofs.Common.{◌≡◌, ℕ, zero, suc, ◌+◌, ◌<◌, Bool, true, false, List, [], ◌∷◌, length, get_or, refl, ap, ◌∙◌, ⊎_elim, le_of_suc-le-suc, not-suc-le-zero, eq-or-lt_of_le, arith, length-append, le-ltb, lt-ltb}
use Rattle.std.specs.List.{position_or_len, remove}
use Rattle.std.proofs.lemmas.List.Sums.{position_or_len_is}
use lib.ListN.{get_or-append}
use lib.Seq.{get_or_at}
use Rattle.charger.specs.First.{nobody, found, first}
use Rattle.charger.proofs.waiting_queue.Taken.{first_at}
use Rattle.engine.specs.Plan.{Plan}
use Rattle.engine.specs.SiteState.{Engine, below, free_at}

pub length-below : (n : ℕ) → length (below n) ≡ n
length-below zero = refl
length-below (suc n) = rw length-append (omega (arith, length-below n))

pub place_at : (n i : ℕ) → i < n → get_or (below n) i 0 ≡ i
place_at zero i h = absurd (not-suc-le-zero h)
place_at (suc n) i h =
    ⊎_elim
    (λ (e : i ≡ n). rw e (get_or_at (below n) n [] 0 n (length-below n)))
    (λ (l : i < n). get_or-append (below n) (n ∷ []) 0 i (omega (arith, length-below n)) ∙ place_at n i l)
    (eq-or-lt_of_le (le_of_suc-le-suc h))

-- the first below n that passes is what a search of the places finds
module _ (test : ℕ → Bool) (n : ℕ) where
  pub below_missed : ((k : ℕ) → k < n → test k ≡ false) → first test (below n) ≡ nobody
  below_missed h =
      let end : position_or_len test (below n) ≡ n =
      position_or_len_is test (below n) n 0 (omega (arith, length-below n)) (λ k l. rw (place_at n k l) (h k l)) (λ l. absurd (omega (arith, length-below n))) in
      first_at test (below n) 0 ∙ rw (le-ltb (position_or_len test (below n)) (length (below n)) (omega (arith, end, length-below n)))

  pub below_met : (c : ℕ) → c < n → test c ≡ true → ((k : ℕ) → k < c → test k ≡ false) → first test (below n) ≡ found c (remove (below n) c)
  below_met c l t h =
      let here : position_or_len test (below n) ≡ c =
      position_or_len_is test (below n) c 0 (omega (arith, length-below n)) (λ k m. rw (place_at n k (omega arith)) (h k m)) (λ m. rw (place_at n c l) t) in
      first_at test (below n) 0
      ∙ rw (lt-ltb (position_or_len test (below n)) (length (below n)) (omega (arith, here, length-below n))) (ap (λ (i : ℕ). found (get_or (below n) i 0) (remove (below n) i)) here ∙ ap (λ (v : ℕ). found v (remove (below n) c)) (place_at n c l))

-- what holds below n and at n
pub one_more : {P : ℕ → Type 0} (n : ℕ) → ((k : ℕ) → k < n → P k) → P n → (k : ℕ) → k < n + 1 → P k
one_more {P} n h e k l = ⊎_elim (λ (q : k ≡ n). rw q e) (λ (m : k < n). h k m) (eq-or-lt_of_le (omega arith))

-- ---- the free chargers

-- a charger is free by what stands there
pub free_at_get : (p : Plan) {A : Type 0} (g : Engine A) (l : List A) (i : ℕ) (d : A) → i < length l → free_at p g l i ≡ g.is_free (get_or l i d)
free_at_get p g [] i d h = absurd (omega arith)
free_at_get p g (s ∷ l) zero d h = refl
free_at_get p g (s ∷ l) (suc i) d h = free_at_get p g l i d (omega arith)

-- Laws of a loop over the indices from some k up to, not including, n, and of a list that such a loop fills. Assumes nothing.
use Rattle.std.proofs.Common.{◌≡◌, ℕ, zero, suc, ◌+◌, ◌-◌, ◌<◌, ◌≤◌, Bool, true, false, cond, ◌&&◌, Some, None, List, [], ◌∷◌, ◌++◌, map, length, get_or, take, set, sym, refl, ap, ◌∙◌, inl, inr, add-zero, eq-or-lt_of_le, zero-add, add-one, le-ltb, lt-ltb, ltb, ltb-true, arith}
use mathlib.Core.Bool.{and_assoc}
use Rattle.charger.specs.Lists.{All, none, also}
use Rattle.charger.proofs.Lists.{by_cond, and_true}
use Rattle.charger.proofs.waiting_queue.Part.{take-set}
use Rattle.plan.specs.Search.{first_index, short_of, every, and_hold, holds, each}

module _ (f : ℕ → Bool) (k n : ℕ) where
  left : k < n → n - k ≡ suc (n - suc k)
  left h = omega arith

  -- f does not hold at k: the loop goes on
  pub first_again : {t : ℕ} → k < n → f k ≡ false → first_index f k (n - k) ≡ t → first_index f (k + 1) (n - (k + 1)) ≡ t
  unfolding first_index
  first_again h e p = rw add-one (rw (left h, e) at p)

  -- it holds at k: that is the first
  pub first_found : k < n → f k ≡ true → first_index f k (n - k) ≡ k
  unfolding first_index
  first_found h e = rw (left h, e)

  -- nothing is left
  pub first_none : n ≤ k → first_index f k (n - k) ≡ k
  unfolding first_index
  first_none h = let e : n - k ≡ 0 = omega arith in rw e

  -- and what a search for it returns: the index that is found
  pub short_found : {t : ℕ} → k < n → f k ≡ true → first_index f k (n - k) ≡ t → Some k ≡ short_of t n
  short_found h e p = rw (← p, first_found h e, lt-ltb k n h)

  -- or none
  pub short_none : {t : ℕ} → n ≤ k → first_index f k (n - k) ≡ t → None ≡ short_of t n
  short_none h p = rw (← p, first_none h, le-ltb k n h)

  pub every_again : {t : Bool} → k < n → f k ≡ true → every f k (n - k) ≡ t → every f (k + 1) (n - (k + 1)) ≡ t
  unfolding every
  every_again h e p = rw add-one (rw (left h, e) at p)

  pub every-broken : k < n → f k ≡ false → every f k (n - k) ≡ false
  unfolding every
  every-broken h e = rw (left h, e)

  pub every_end : n ≤ k → every f k (n - k) ≡ true
  unfolding every
  every_end h = let e : n - k ≡ 0 = omega arith in rw e

  -- a loop that does not stop early: what f says at k joins what is known of the indices before it
  pub every-joined : {t : Bool} (known : Bool) → k < n → (known && every f k (n - k)) ≡ t → (known && f k && every f (k + 1) (n - (k + 1))) ≡ t
  unfolding every
  every-joined known h p = and_assoc known (f k) _ ∙ rw add-one (rw (left h) at p)

  pub every_known : {t : Bool} (known : Bool) → n ≤ k → (known && every f k (n - k)) ≡ t → known ≡ t
  every_known true h p = sym (every_end h) ∙ p
  every_known false h p = p

-- ---- an index that is short of an end

pub short_some : (k end i : ℕ) → short_of k end ≡ Some i → (i ≡ k) × (i < end)
short_some k end i e = go (ltb k end) (ltb-true k end) e
  where
    go : (t : Bool) → (t ≡ true → k < end) → cond t (Some k) None ≡ Some i → (i ≡ k) × (i < end)
    go true h e = let same : i ≡ k = cc in (same, omega (arith, h refl))
    go false h e = cc

pub short_past : (k end : ℕ) → short_of k end ≡ None → ltb k end ≡ false
short_past k end e = go (ltb k end) e
  where
    go : (t : Bool) → cond t (Some k) None ≡ None → t ≡ false
    go true e = cc
    go false e = refl

-- ---- tests that all hold

hold_next : (u : Bool) (us : List Bool) → u ≡ true → ((i : ℕ) → get_or us i true ≡ true) → (i : ℕ) → get_or (u ∷ us) i true ≡ true
hold_next u us h next zero = h
hold_next u us h next (suc i) = next i

hold_all : (t : Bool) (us : List Bool) → and_hold t us ≡ true → (t ≡ true) × ((i : ℕ) → get_or us i true ≡ true)
hold_all t [] e = (e, λ i. refl)
hold_all t (u ∷ us) e =
    let rest = hold_all (t && u) us e in
    let two = and_true t u rest.0 in
    (two.0, hold_next u us two.1 rest.1)

pub holds_at : (ts : List Bool) → holds ts ≡ true → (i : ℕ) → get_or ts i true ≡ true
holds_at [] e i = refl
holds_at (t ∷ ts) e i =
    let all = hold_all t ts e in
    hold_next t ts all.0 all.1 i

-- ---- what `first` gives

pub first_from : (f : ℕ → Bool) (k m : ℕ) → k ≤ first_index f k m
unfolding first_index
first_from f k zero = omega arith
first_from f k (suc m) = by_cond (λ (n : ℕ). k ≤ n) (f k) (omega arith) (omega (arith, first_from f (suc k) m))

pub first_to : (f : ℕ → Bool) (k m : ℕ) → first_index f k m ≤ k + m
unfolding first_index
first_to f k zero = omega arith
first_to f k (suc m) = by_cond (λ (n : ℕ). n ≤ k + suc m) (f k) (omega arith) (omega (arith, first_to f (suc k) m))

-- short of the end, f holds at what it gives
pub first_holds : (f : ℕ → Bool) (k m : ℕ) → first_index f k m < k + m → f (first_index f k m) ≡ true
unfolding first_index
first_holds f k zero h = absurd (omega arith)
first_holds f k (suc m) h = go (f k) refl (λ g. first_holds f (suc k) m g)
  where
    go : (t : Bool) → f k ≡ t → (first_index f (suc k) m < suc k + m → f (first_index f (suc k) m) ≡ true) → f (cond (f k) k (first_index f (suc k) m)) ≡ true
    go true e next = rw e e
    go false e next = rw e (next (omega (arith, rw e at h)))

-- where it gives the end, f holds at no index
pub first_missed : (f : ℕ → Bool) (k m : ℕ) → k + m ≤ first_index f k m → (j : ℕ) → k ≤ j → j < k + m → f j ≡ false
unfolding first_index
first_missed f k zero h j a b = absurd (omega arith)
first_missed f k (suc m) h j a b = go (f k) refl (λ g q. first_missed f (suc k) m g j q (omega arith))
  where
    go : (t : Bool) → f k ≡ t → (suc k + m ≤ first_index f (suc k) m → suc k ≤ j → f j ≡ false) → f j ≡ false
    go true e next = absurd (omega (arith, rw e at h))
    go false e next = elim (eq-or-lt_of_le a) [
      | inl p ↦ rw (← p) e
      | inr q ↦ next (omega (arith, rw e at h)) q
    ]

-- and where f holds at no index, it gives the end
pub first_end : (f : ℕ → Bool) (k m : ℕ) → ((j : ℕ) → k ≤ j → j < k + m → f j ≡ false) → first_index f k m ≡ k + m
unfolding first_index
first_end f k zero h = rw add-zero
first_end f k (suc m) h = rw (h k (omega arith) (omega arith), first_end f (suc k) m (λ j a b. h j (omega arith) (omega arith))) (omega arith)

-- two tests that agree at each index
pub first_same : (f g : ℕ → Bool) (k m : ℕ) → ((j : ℕ) → k ≤ j → j < k + m → f j ≡ g j) → first_index f k m ≡ first_index g k m
unfolding first_index
first_same f g k zero h = refl
first_same f g k (suc m) h =
    rw (h k (omega arith) (omega arith), first_same f g (suc k) m (λ j a b. h j (omega arith) (omega arith)))

-- where every index has it, each one has
pub every_at : (f : ℕ → Bool) (k m : ℕ) → every f k m ≡ true → (j : ℕ) → k ≤ j → j < k + m → f j ≡ true
unfolding every
every_at f k zero h j a b = absurd (omega arith)
every_at f k (suc m) h j a b =
    let both = and_true (f k) (every f (suc k) m) h in
    elim (eq-or-lt_of_le a) [
      | inl p ↦ rw (← p) both.0
      | inr q ↦ every_at f (suc k) m both.1 j q (omega arith)
    ]

-- and where each one has it, every index has
pub every_of : (f : ℕ → Bool) (k m : ℕ) → ((j : ℕ) → k ≤ j → j < k + m → f j ≡ true) → every f k m ≡ true
unfolding every
every_of f k zero h = refl
every_of f k (suc m) h = rw (h k (omega arith) (omega arith), every_of f (suc k) m (λ j a b. h j (omega arith) (omega arith)))

-- two properties that agree at each index
pub every_same : (f g : ℕ → Bool) (k m : ℕ) → ((j : ℕ) → k ≤ j → j < k + m → f j ≡ g j) → every f k m ≡ every g k m
unfolding every
every_same f g k zero h = refl
every_same f g k (suc m) h =
    rw (h k (omega arith) (omega arith), every_same f g (suc k) m (λ j a b. h j (omega arith) (omega arith)))

-- ---- a list that is filled from the front

module _ {A : Type 0} (f : ℕ → A) where
  pub length-each : (k m : ℕ) → length (each f k m) ≡ m
  unfolding each
  length-each k zero = refl
  length-each k (suc m) = ap suc (length-each (suc k) m)

  pub each_at : (k m i : ℕ) (d : A) → i < m → get_or (each f k m) i d ≡ f (k + i)
  unfolding each
  each_at k zero i d h = absurd (omega arith)
  each_at k (suc m) zero d h = rw add-zero
  each_at k (suc m) (suc i) d h =
      let e : suc k + i ≡ k + suc i = omega arith in
      rw e at (each_at (suc k) m i d (omega arith))

  -- one index more
  pub each_suc : (k m : ℕ) → each f k (suc m) ≡ each f k m ++ (f (k + m) ∷ [])
  unfolding each
  each_suc k zero = rw add-zero
  each_suc k (suc m) =
      let e : suc k + m ≡ k + suc m = omega arith in
      ap (λ (l : List A). f k ∷ l) (rw e at (each_suc (suc k) m))

  -- one store more
  pub fill_step : (a : List A) (i : ℕ) (x : A) → i < length a → take i a ≡ each f 0 i → x ≡ f i → take (i + 1) (set a i x) ≡ each f 0 (i + 1)
  fill_step a i x h e p = take-set a i x h ∙ rw (e, p, add-one, each_suc 0 i, zero-add)

  -- one push more
  pub push_step : (xs : List A) (i : ℕ) (x : A) → xs ≡ each f 0 i → x ≡ f i → xs ++ (x ∷ []) ≡ each f 0 (i + 1)
  push_step xs i x e p = rw (e, p, add-one, each_suc 0 i, zero-add)

  -- every member has a property that f has at every index
  pub all_each : {P : A → Type 0} (k m : ℕ) → ((i : ℕ) → k ≤ i → i < k + m → P (f i)) → All P (each f k m)
  unfolding each
  all_each k zero h = none
  all_each k (suc m) h = also (h k (omega arith) (omega arith)) (all_each (suc k) m (λ i a b. h i (omega arith) (omega arith)))

-- two functions that agree at each index
pub each_same : {A : Type 0} (f g : ℕ → A) (k m : ℕ) → ((j : ℕ) → k ≤ j → j < k + m → f j ≡ g j) → each f k m ≡ each g k m
unfolding each
each_same f g k zero h = refl
each_same f g k (suc m) h =
    rw (h k (omega arith) (omega arith), each_same f g (suc k) m (λ j a b. h j (omega arith) (omega arith)))

pub map_each : {A : Type 0} {B : Type 0} (g : A → B) (f : ℕ → A) (k m : ℕ) → map g (each f k m) ≡ each (λ j. g (f j)) k m
unfolding each
map_each g f k zero = refl
map_each {B = B} g f k (suc m) = ap (λ (l : List B). g (f k) ∷ l) (map_each g f (suc k) m)

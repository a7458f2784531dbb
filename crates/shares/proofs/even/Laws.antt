-- Laws of the shares, for every list and limit.
use Rattle.std.proofs.Common.{◌≡◌, ℕ, zero, suc, ◌+◌, ◌-◌, ◌*◌, ◌<◌, ◌≤◌, min, Bool, true, false, cond, not, T, ltb, leb, ◌⊎◌, List, [], ◌∷◌, length, get_or, sym, refl, ap, ◌∙◌, subst, inl, inr, zero-le, le_of_eq, le_refl, le_of_suc-le-suc, le_of_lt, lt_of_not-le, mul-suc, arith, ltb→lt, leb→le, nltb→le, lt-ltb, le-leb}
use lib.Dec.{nleb→lt}
use borrow.Author.Tests.{lt-leb}
use Rattle.shares.specs.Shares.{total, cut, level, share_of, left_after, given, left_over, shares}
use Rattle.shares.specs.Fair.{Fair}
use Rattle.shares.specs.Code.Parted.{above, under}
use Rattle.shares.proofs.even.Levels.{level_is, cut_is}

-- ---- what is given at a level
given-sum : (l left : ℕ) (rs : List ℕ) → total (given l left rs) ≡ total (cut l rs) + min left (above l rs)
unfolding total cut given above
given-sum l left [] = omega arith
given-sum l left (r ∷ rs) = go (ltb l r) (ltb→lt l r) (nltb→le l r) (given-sum l (left - 1) rs) (given-sum l left rs)
  where
    go : (b : Bool) → (T b → l < r) → (T (not b) → r ≤ l) → total (given l (left - 1) rs) ≡ total (cut l rs) + min (left - 1) (above l rs) → total (given l left rs) ≡ total (cut l rs) + min left (above l rs)
        → cond b (l + min left 1) r + total (given l (cond b (left - 1) left) rs) ≡ min r l + total (cut l rs) + min left (cond b (suc (above l rs)) (above l rs))
    go true x y h k = let t = x tt in omega arith
    go false x y h k = let t = y tt in omega arith

given-length : (l left : ℕ) (rs : List ℕ) → length (given l left rs) ≡ length rs
unfolding given
given-length l left [] = refl
given-length l left (r ∷ rs) = ap suc (given-length l (left_after l left r) rs)

-- what one place gets: its request if that is at or below the level, and else the level or one more
record Given (l r s : ℕ) : Type 0 where
  whole : r ≤ l → s ≡ r
  least : l < r → l ≤ s
  most : l < r → s ≤ l + 1

given_one : (l left r : ℕ) → Given l r (share_of l left r)
given_one l left r = go (ltb l r) (ltb→lt l r) (nltb→le l r)
  where
    go : (b : Bool) → (T b → l < r) → (T (not b) → r ≤ l) → Given l r (cond b (l + min left 1) r)
    go true x y = let t = x tt in record { whole = λ h. omega arith; least = λ h. omega arith; most = λ h. omega arith }
    go false x y = let t = y tt in record { whole = λ h. refl; least = λ h. omega arith; most = λ h. omega arith }

given_at : (l left : ℕ) (rs : List ℕ) (i : ℕ) → Given l (get_or rs i 0) (get_or (given l left rs) i 0)
unfolding given
given_at l left [] i = record { whole = λ h. refl; least = λ h. omega arith; most = λ h. omega arith }
given_at l left (r ∷ rs) zero = given_one l left r
given_at l left (r ∷ rs) (suc i) = given_at l (left_after l left r) rs i

-- ---- the shares: the requests where they fit, and else what is given at the level
pub when_fits : (rs : List ℕ) (limit : ℕ) → total rs ≤ limit → shares rs limit ≡ rs
unfolding shares
when_fits rs limit h = rw (le-leb (total rs) limit h)

pub when_short : (rs : List ℕ) (limit : ℕ) → limit < total rs → shares rs limit ≡ given (level rs limit) (left_over rs limit) rs
unfolding shares
when_short rs limit h = rw (lt-leb (total rs) limit h)

by_cases : (rs : List ℕ) (limit : ℕ) (P : List ℕ → Type 0) → (total rs ≤ limit → P rs) → (limit < total rs → P (given (level rs limit) (left_over rs limit) rs)) → P (shares rs limit)
by_cases rs limit P p q = go (leb (total rs) limit) (leb→le (total rs) limit) (nleb→lt (total rs) limit)
  where
    go : (b : Bool) → (T b → total rs ≤ limit) → (T (not b) → limit < total rs) → P (shares rs limit)
    go true x y = subst P (sym (when_fits rs limit (x tt))) (p (x tt))
    go false x y = subst P (sym (when_short rs limit (y tt))) (q (y tt))

-- fewer watts are left over than there are requests above the level
pub left_few : (rs : List ℕ) (limit : ℕ) → limit < total rs → left_over rs limit < above (level rs limit) rs
unfolding left_over
left_few rs limit h =
    let l = level rs limit in
    let v = level_is rs limit h in
    let over : limit < total (cut (suc l) rs) = lt_of_not-le (λ t. let m = v.largest (suc l) t in omega arith) in
    let w = v.within in
    let e = cut_is l l rs (le_refl l) (omega arith) in
    let f : total (cut (suc l) rs) ≡ under l rs + above l rs * suc l = cut_is l (suc l) rs (omega arith) (omega arith) in
    omega (arith, mul-suc (above l rs) l)

-- they sum to the smaller of the limit and the requests
pub sum : (rs : List ℕ) (limit : ℕ) → total (shares rs limit) ≡ min limit (total rs)
sum rs limit =
    by_cases rs limit (λ (s : List ℕ). total s ≡ min limit (total rs)) (λ h. omega arith)
    (λ h.
    let few = left_few rs limit h in
    let left = left_is in
    let w = (level_is rs limit h).within in
    omega (arith, given-sum (level rs limit) (left_over rs limit) rs))
  where
    left_is : left_over rs limit ≡ limit - total (cut (level rs limit) rs)
    left_is = unfold left_over in refl

pub same_count : (rs : List ℕ) (limit : ℕ) → length (shares rs limit) ≡ length rs
same_count rs limit = by_cases rs limit (λ (s : List ℕ). length s ≡ length rs) (λ h. refl) (λ h. given-length (level rs limit) (left_over rs limit) rs)

-- what is given at a place and at a later one
given_cap : (l left : ℕ) (rs : List ℕ) (j : ℕ) → get_or (given l left rs) j 0 ≤ l + min left 1
unfolding given
given_cap l left [] j = zero-le
given_cap l left (r ∷ rs) zero = go (ltb l r) (nltb→le l r)
  where
    go : (b : Bool) → (T (not b) → r ≤ l) → cond b (l + min left 1) r ≤ l + min left 1
    go true y = le_refl (l + min left 1)
    go false y = let t = y tt in omega arith
given_cap l left (r ∷ rs) (suc j) = go (ltb l r) (given_cap l (left - 1) rs j) (given_cap l left rs j)
  where
    go : (b : Bool) → get_or (given l (left - 1) rs) j 0 ≤ l + min (left - 1) 1 → get_or (given l left rs) j 0 ≤ l + min left 1 → get_or (given l (cond b (left - 1) left) rs) j 0 ≤ l + min left 1
    go true h k = omega arith
    go false h k = k

given-first : (l left : ℕ) (rs : List ℕ) (i j : ℕ) → i ≤ j → l < get_or rs i 0 → get_or (given l left rs) j 0 ≤ get_or (given l left rs) i 0
unfolding given
given-first l left [] i j h o = zero-le
given-first l left (r ∷ rs) zero zero h o = le_refl (share_of l left r)
given-first l left (r ∷ rs) zero (suc j) h o = rw (lt-ltb l r o) (omega (arith, given_cap l (left - 1) rs j))
given-first l left (r ∷ rs) (suc i) zero h o = absurd (no i h)
  where
    no : (i : ℕ) → suc i ≤ 0 → ⊥
    no i h = omega arith
given-first l left (r ∷ rs) (suc i) (suc j) h o = given-first l (left_after l left r) rs i j (le_of_suc-le-suc h) o

-- at a level, of one that is still short: its request is above the level
short : (l r s : ℕ) → Given l r s → s < r → l < r
short l r s g h = lt_of_not-le (λ t. omega (arith, g.whole t))

asked_of : (l r s : ℕ) → Given l r s → s ≤ r
asked_of l r s g = go (ltb l r) (ltb→lt l r) (nltb→le l r)
  where
    go : (b : Bool) → (T b → l < r) → (T (not b) → r ≤ l) → s ≤ r
    go true x y = let t = x tt in omega (arith, g.most t)
    go false x y = let t = y tt in omega (arith, g.whole t)

module _ (rs : List ℕ) (limit : ℕ) where
  -- no share is above its request
  pub asked : (i : ℕ) → get_or (shares rs limit) i 0 ≤ get_or rs i 0
  asked i =
      by_cases rs limit (λ (s : List ℕ). get_or s i 0 ≤ get_or rs i 0) (λ h. le_refl (get_or rs i 0))
      (λ h. asked_of (level rs limit) (get_or rs i 0) _ (given_at (level rs limit) (left_over rs limit) rs i))

  -- nobody has over one watt more than one that is still short
  pub even : (i j : ℕ) → get_or (shares rs limit) i 0 < get_or rs i 0 → get_or (shares rs limit) j 0 ≤ get_or (shares rs limit) i 0 + 1
  even i j =
      by_cases rs limit (λ (s : List ℕ). get_or s i 0 < get_or rs i 0 → get_or s j 0 ≤ get_or s i 0 + 1) (λ h a. omega arith)
      (λ h a.
      let l = level rs limit in
      let g = given_at l (left_over rs limit) rs i in
      omega (arith, g.least (short l (get_or rs i 0) _ g a), given_cap l (left_over rs limit) rs j))

  -- two that are still short differ by at most one
  pub differ : (i j : ℕ) → get_or (shares rs limit) i 0 < get_or rs i 0 → get_or (shares rs limit) j 0 < get_or rs j 0
      → (get_or (shares rs limit) i 0 ≤ get_or (shares rs limit) j 0 + 1) × (get_or (shares rs limit) j 0 ≤ get_or (shares rs limit) i 0 + 1)
  differ i j a b = (even j i b, even i j a)

  -- nobody at a later place has more than one that is still short
  pub first : (i j : ℕ) → i ≤ j → get_or (shares rs limit) i 0 < get_or rs i 0 → get_or (shares rs limit) j 0 ≤ get_or (shares rs limit) i 0
  first i j k =
      by_cases rs limit (λ (s : List ℕ). get_or s i 0 < get_or rs i 0 → get_or s j 0 ≤ get_or s i 0) (λ h a. omega arith)
      (λ h a.
      let l = level rs limit in
      given-first l (left_over rs limit) rs i j k (short l (get_or rs i 0) _ (given_at l (left_over rs limit) rs i) a))

  pub fair : Fair rs limit (shares rs limit)
  fair = record { count = same_count rs limit; asked = asked; sum = sum rs limit; differ = differ; even = even; first = first }

-- one that is alone gets what it asks, as far as the limit goes
single : (m : ℕ) (s : List ℕ) → length s ≡ 1 → total s ≡ m → s ≡ m ∷ []
unfolding total
single m [] e t = absurd (omega arith)
single m (x ∷ []) e t = let one : x ≡ m = omega arith in rw one
single m (x ∷ y ∷ s) e t = absurd (no (length s) e)
  where
    no : (n : ℕ) → suc (suc n) ≡ 1 → ⊥
    no n e = omega arith

pub alone : (r limit : ℕ) → shares (r ∷ []) limit ≡ min r limit ∷ []
unfolding total
alone r limit = single (min r limit) (shares (r ∷ []) limit) (same_count (r ∷ []) limit) (omega (arith, sum (r ∷ []) limit))

-- ---- nothing else is fair
-- of two lists: somewhere the first has less, or nowhere
less_or_not : (s t : List ℕ) → ((i : ℕ) × (get_or s i 0 < get_or t i 0)) ⊎ ((i : ℕ) → get_or t i 0 ≤ get_or s i 0)
less_or_not s [] = inr (λ i. zero-le)
less_or_not [] (y ∷ t) = go (ltb 0 y) (ltb→lt 0 y) (nltb→le 0 y) (less_or_not [] t)
  where
    go : (b : Bool) → (T b → 0 < y) → (T (not b) → y ≤ 0) → ((i : ℕ) × (0 < get_or t i 0)) ⊎ ((i : ℕ) → get_or t i 0 ≤ 0) → ((i : ℕ) × (0 < get_or (y ∷ t) i 0)) ⊎ ((i : ℕ) → get_or (y ∷ t) i 0 ≤ 0)
    go true p q r = inl (0, p tt)
    go false p q (inl r) = inl (suc r.0, r.1)
    go false p q (inr r) = inr (λ i. each i (q tt))
      where
        each : (i : ℕ) → y ≤ 0 → get_or (y ∷ t) i 0 ≤ 0
        each zero z = z
        each (suc i) z = r i
less_or_not (x ∷ s) (y ∷ t) = go (ltb x y) (ltb→lt x y) (nltb→le x y) (less_or_not s t)
  where
    go : (b : Bool) → (T b → x < y) → (T (not b) → y ≤ x) → ((i : ℕ) × (get_or s i 0 < get_or t i 0)) ⊎ ((i : ℕ) → get_or t i 0 ≤ get_or s i 0)
        → ((i : ℕ) × (get_or (x ∷ s) i 0 < get_or (y ∷ t) i 0)) ⊎ ((i : ℕ) → get_or (y ∷ t) i 0 ≤ get_or (x ∷ s) i 0)
    go true p q r = inl (0, p tt)
    go false p q (inl r) = inl (suc r.0, r.1)
    go false p q (inr r) = inr (λ i. each i (q tt))
      where
        each : (i : ℕ) → y ≤ x → get_or (y ∷ t) i 0 ≤ get_or (x ∷ s) i 0
        each zero z = z
        each (suc i) z = r i

-- a list that is nowhere less and sums to no more is the same one
total-least : (s t : List ℕ) → length s ≡ length t → ((i : ℕ) → get_or t i 0 ≤ get_or s i 0) → total t ≤ total s
unfolding total
total-least [] [] e h = zero-le
total-least [] (y ∷ t) e h = absurd (no (length t) e)
  where
    no : (n : ℕ) → 0 ≡ suc n → ⊥
    no n e = omega arith
total-least (x ∷ s) [] e h = zero-le
total-least (x ∷ s) (y ∷ t) e h = omega (arith, h 0, total-least s t (pred_eq (length s) (length t) e) (λ i. h (suc i)))
  where
    pred_eq : (m n : ℕ) → suc m ≡ suc n → m ≡ n
    pred_eq m n e = omega arith

same_list : (s t : List ℕ) → length s ≡ length t → ((i : ℕ) → get_or t i 0 ≤ get_or s i 0) → total s ≤ total t → s ≡ t
unfolding total
same_list [] [] e h k = refl
same_list [] (y ∷ t) e h k = absurd (no (length t) e)
  where
    no : (n : ℕ) → 0 ≡ suc n → ⊥
    no n e = omega arith
same_list (x ∷ s) [] e h k = absurd (no (length s) e)
  where
    no : (n : ℕ) → suc n ≡ 0 → ⊥
    no n e = omega arith
same_list (x ∷ s) (y ∷ t) e h k =
    let n = pred_eq (length s) (length t) e in
    let below = total-least s t n (λ i. h (suc i)) in
    let head : y ≤ x = h 0 in
    let one : x ≡ y = omega arith in
    let rest : s ≡ t = same_list s t n (λ i. h (suc i)) (omega arith) in
    λ i. one i ∷ rest i
  where
    pred_eq : (m n : ℕ) → suc m ≡ suc n → m ≡ n
    pred_eq m n e = omega arith

module _ (rs : List ℕ) (limit : ℕ) (s t : List ℕ) (a : Fair rs limit s) (b : Fair rs limit t) where
  -- where one has less, the other nowhere has
  not_both : (i j : ℕ) → get_or s i 0 < get_or t i 0 → get_or t j 0 < get_or s j 0 → ⊥
  not_both i j p q =
      let si : get_or s i 0 < get_or rs i 0 = omega (arith, b.asked i) in
      let tj : get_or t j 0 < get_or rs j 0 = omega (arith, a.asked j) in
      go (leb i j) (leb→le i j) (nleb→lt i j) (a.even i j si) (b.even j i tj) (λ h. a.first i j h si) (λ h. b.first j i h tj)
    where
      go : (x : Bool) → (T x → i ≤ j) → (T (not x) → j < i) → get_or s j 0 ≤ get_or s i 0 + 1 → get_or t i 0 ≤ get_or t j 0 + 1
          → (i ≤ j → get_or s j 0 ≤ get_or s i 0) → (j ≤ i → get_or t i 0 ≤ get_or t j 0) → ⊥
      go true u v e f g h = omega (arith, g (u tt))
      go false u v e f g h = omega (arith, h (le_of_lt (v tt)))

  -- so there is one way only to share
  pub only : s ≡ t
  only = go (less_or_not s t) (less_or_not t s)
    where
      totals : total s ≡ total t
      totals = a.sum ∙ sym b.sum

      go : ((i : ℕ) × (get_or s i 0 < get_or t i 0)) ⊎ ((i : ℕ) → get_or t i 0 ≤ get_or s i 0) → ((i : ℕ) × (get_or t i 0 < get_or s i 0)) ⊎ ((i : ℕ) → get_or s i 0 ≤ get_or t i 0) → s ≡ t
      go (inr h) k = same_list s t (a.count ∙ sym b.count) h (le_of_eq totals)
      go (inl h) (inr k) = sym (same_list t s (b.count ∙ sym a.count) k (le_of_eq (sym totals)))
      go (inl h) (inl k) = absurd (not_both h.0 k.0 h.1 k.1)

-- The level: there is one where the requests do not fit, and only one. How it is found: those at or below a level, and those above.
use Rattle.std.proofs.Common.{◌≡◌, ℕ, zero, suc, ◌+◌, ◌-◌, ◌*◌, ◌/◌, ◌%◌, ◌<◌, ◌≤◌, min, Bool, true, false, cond, not, T, ltb, leb, List, [], ◌∷◌, refl, ap, ◌∙◌, subst, zero-le, le_refl, le_of_suc-le-suc, suc-mul, mul_comm, le_antisymm, lt_of_not-le, div-add-mod', le-div_iff_mul-le, zero-mul, mul-suc, div-mul-le_self, arith, ltb→lt, leb→le, nltb→le}
use native.Mathlib.Nat.{lt-div-mul-add}
use lib.Dec.{nleb→lt}
use Rattle.shares.specs.Shares.{total, cut, Level, highest, level}
use Rattle.shares.specs.Code.Parted.{under, above}

-- a higher level gives no less
pub cut_rises : (l m : ℕ) (rs : List ℕ) → l ≤ m → total (cut l rs) ≤ total (cut m rs)
unfolding total cut
cut_rises l m [] h = zero-le
cut_rises l m (r ∷ rs) h = omega (arith, cut_rises l m rs h)

pub cut-nothing : (rs : List ℕ) → total (cut 0 rs) ≡ 0
unfolding total cut
cut-nothing [] = refl
cut-nothing (r ∷ rs) = omega (arith, cut-nothing rs)

-- no cut reaches a level that is above their sum
uncut : (m : ℕ) (rs : List ℕ) → total (cut m rs) < m → total (cut m rs) ≡ total rs
unfolding total cut
uncut m [] h = refl
uncut m (r ∷ rs) h = omega (arith, uncut m rs (omega arith))

-- where the requests do not fit, a level that does is at most the limit
at_most_limit : (rs : List ℕ) (limit m : ℕ) → limit < total rs → total (cut m rs) ≤ limit → m ≤ limit
at_most_limit rs limit m h k = go (leb m limit) (leb→le m limit) (nleb→lt m limit)
  where
    go : (b : Bool) → (T b → m ≤ limit) → (T (not b) → limit < m) → m ≤ limit
    go true p q = p tt
    go false p q = let over = q tt in let e = uncut m rs (omega arith) in omega arith

-- the highest level up to k is within the limit, and no level up to k that is within the limit is above it
highest-within : (rs : List ℕ) (limit k : ℕ) → total (cut (highest rs limit k) rs) ≤ limit
unfolding highest
highest-within rs limit zero = omega (arith, cut-nothing rs)
highest-within rs limit (suc k) = go (leb (total (cut (suc k) rs)) limit) (leb→le (total (cut (suc k) rs)) limit) (highest-within rs limit k)
  where
    go : (b : Bool) → (T b → total (cut (suc k) rs) ≤ limit) → total (cut (highest rs limit k) rs) ≤ limit → total (cut (cond b (suc k) (highest rs limit k)) rs) ≤ limit
    go true p q = p tt
    go false p q = q

highest_largest : (rs : List ℕ) (limit k m : ℕ) → m ≤ k → total (cut m rs) ≤ limit → m ≤ highest rs limit k
unfolding highest
highest_largest rs limit zero m h t = h
highest_largest rs limit (suc k) m h t = go (leb (total (cut (suc k) rs)) limit) (nleb→lt (total (cut (suc k) rs)) limit) (λ l. highest_largest rs limit k m l t)
  where
    go : (b : Bool) → (T (not b) → limit < total (cut (suc k) rs)) → (m ≤ k → m ≤ highest rs limit k) → m ≤ cond b (suc k) (highest rs limit k)
    go true p q = h
    go false p q =
        let over = p tt in
        q (le_of_suc-le-suc (lt_of_not-le (λ g. let e = cut_rises (suc k) m rs g in omega arith)))

-- the level of the definition is the level
pub level_is : (rs : List ℕ) (limit : ℕ) → limit < total rs → Level rs limit (level rs limit)
unfolding level
level_is rs limit h = record {
  within = highest-within rs limit limit;
  largest = λ m t. highest_largest rs limit limit m (at_most_limit rs limit m h t) t;
}

-- there is only one
pub level_one : (rs : List ℕ) (limit l m : ℕ) → Level rs limit l → Level rs limit m → l ≡ m
level_one rs limit l m a b = le_antisymm (b.largest l a.within) (a.largest m b.within)

-- ---- how it is found: by the sum of the requests at or below a level, and how many are above it
-- at a level m from l on, those above l get at most m
pub cut_at_most : (l m : ℕ) (rs : List ℕ) → total (cut m rs) ≤ under l rs + above l rs * m
unfolding total cut under above
cut_at_most l m [] = zero-le
cut_at_most l m (r ∷ rs) = go (ltb l r) (cut_at_most l m rs)
  where
    go : (b : Bool) → total (cut m rs) ≤ under l rs + above l rs * m → min r m + total (cut m rs) ≤ cond b (under l rs) (r + under l rs) + cond b (suc (above l rs)) (above l rs) * m
    go true h = omega (arith, suc-mul (above l rs) m)
    go false h = omega arith

-- at the level and one above it they get just that
pub cut_is : (l m : ℕ) (rs : List ℕ) → l ≤ m → m ≤ l + 1 → total (cut m rs) ≡ under l rs + above l rs * m
unfolding total cut under above
cut_is l m [] p q = omega (arith, zero-mul m)
cut_is l m (r ∷ rs) p q = go (ltb l r) (ltb→lt l r) (nltb→le l r) (cut_is l m rs p q)
  where
    go : (b : Bool) → (T b → l < r) → (T (not b) → r ≤ l) → total (cut m rs) ≡ under l rs + above l rs * m → min r m + total (cut m rs) ≡ cond b (under l rs) (r + under l rs) + cond b (suc (above l rs)) (above l rs) * m
    go true x y h = let t = x tt in omega (arith, suc-mul (above l rs) m)
    go false x y h = let t = y tt in omega arith

-- with nobody above a level the requests fit at it
pub none_above : (l : ℕ) (rs : List ℕ) → above l rs ≡ 0 → under l rs ≡ total rs
unfolding total under above
none_above l [] h = refl
none_above l (r ∷ rs) h = go (ltb l r) h (none_above l rs)
  where
    go : (b : Bool) → cond b (suc (above l rs)) (above l rs) ≡ 0 → (above l rs ≡ 0 → under l rs ≡ total rs) → cond b (under l rs) (r + under l rs) ≡ r + total rs
    go true h k = omega arith
    go false h k = ap (λ (x : ℕ). r + x) (k h)

module _ (rs : List ℕ) (limit l : ℕ) where
  -- the level for those above l, if those at or below it have what they ask
  abbrev pub next : ℕ
  next = (limit - under l rs) / above l rs

  -- a level that is within the limit where the requests are not: some are above it, and the next one is no lower and within the limit too
  pub record Step : Type 0 where
    pub fits : under l rs ≤ limit
    pub some : 0 < above l rs
    pub rises : l ≤ next
    pub within : total (cut next rs) ≤ limit

  pub step : limit < total rs → total (cut l rs) ≤ limit → Step
  step over h =
      let e = cut_is l l rs (le_refl l) (omega arith) in
      let u : under l rs ≤ limit = omega (arith, e) in
      let s : 0 < above l rs = pos_of (above l rs) (λ z. let all = none_above l rs z in omega arith) in
      let low : l * above l rs ≤ limit - under l rs = omega (arith, e, mul_comm l (above l rs)) in
      let up : next * above l rs ≤ limit - under l rs = div-mul-le_self (limit - under l rs) (above l rs) in
      record {
        fits = u;
        some = s;
        rises = (le-div_iff_mul-le s).1 low;
        within = omega (arith, cut_at_most l next rs, up, mul_comm next (above l rs));
      }
    where
      pos_of : (n : ℕ) → (n ≡ 0 → ⊥) → 0 < n
      pos_of n h = omega arith

  -- where the next level is the same one, it is the level, and the remainder is what it leaves
  module _ (s : Step) (same : next ≡ l) where
    found_within : total (cut l rs) ≤ limit
    found_within = subst (λ (x : ℕ). total (cut x rs) ≤ limit) same s.within

    found_largest : (m : ℕ) → total (cut m rs) ≤ limit → m ≤ l
    found_largest m h =
        le_of_suc-le-suc (lt_of_not-le (λ g.
        let e : total (cut (suc l) rs) ≡ under l rs + above l rs * suc l = cut_is l (suc l) rs (omega arith) (omega arith) in
        let r = cut_rises (suc l) m rs g in
        let u = s.fits in
        let d : limit - under l rs < next * above l rs + above l rs = lt-div-mul-add s.some in
        let k : next * above l rs ≡ above l rs * l = ap (λ (x : ℕ). x * above l rs) same ∙ mul_comm l (above l rs) in
        omega (arith, mul-suc (above l rs) l)))

    pub found : Level rs limit l
    found = record { within = found_within; largest = found_largest }

    pub found_left : (limit - under l rs) % above l rs ≡ limit - total (cut l rs)
    found_left =
        let e = cut_is l l rs (le_refl l) (omega arith) in
        let u = s.fits in
        let d : next * above l rs + (limit - under l rs) % above l rs ≡ limit - under l rs = div-add-mod' (limit - under l rs) (above l rs) in
        let k : next * above l rs ≡ above l rs * l = ap (λ (x : ℕ). x * above l rs) same ∙ mul_comm l (above l rs) in
        omega arith

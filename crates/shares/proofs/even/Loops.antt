-- What a loop over the requests has still to take, at an index and at the next.
use Rattle.std.proofs.Common.{◌≡◌, ℕ, suc, ◌+◌, ◌<◌, ◌≤◌, List, [], ◌∷◌, ◌++◌, length, get_or, take, drop, set, append_assoc, append-nil, lt-suc_self, add-one, drop_of_length-le, take_all, drop-cons, take-suc-set, drop-set-lt, le-ltb, lt-ltb}
use Rattle.shares.specs.Shares.{total, share_of, left_after, given}
use Rattle.shares.specs.Code.Parted.{under, above}

-- ---- one more
module _ (rs : List ℕ) (i : ℕ) (h : i < length rs) where
  pub total_more : total (drop i rs) ≡ get_or rs i 0 + total (drop (i + 1) rs)
  unfolding total
  total_more = rw (add-one, drop-cons rs i 0)

  module _ (l : ℕ) where
    pub under_past : l < get_or rs i 0 → under l (drop i rs) ≡ under l (drop (i + 1) rs)
    unfolding under
    under_past o = rw (add-one, drop-cons rs i 0, lt-ltb l (get_or rs i 0) o)

    pub under_more : get_or rs i 0 ≤ l → under l (drop i rs) ≡ get_or rs i 0 + under l (drop (i + 1) rs)
    unfolding under
    under_more o = rw (add-one, drop-cons rs i 0, le-ltb l (get_or rs i 0) o)

    pub above_more : l < get_or rs i 0 → above l (drop i rs) ≡ suc (above l (drop (i + 1) rs))
    unfolding above
    above_more o = rw (add-one, drop-cons rs i 0, lt-ltb l (get_or rs i 0) o)

    pub above_past : get_or rs i 0 ≤ l → above l (drop i rs) ≡ above l (drop (i + 1) rs)
    unfolding above
    above_past o = rw (add-one, drop-cons rs i 0, le-ltb l (get_or rs i 0) o)

-- the one at i given its share
pub given_more : (rs : List ℕ) (i l left : ℕ) → i < length rs
    → take (i + 1) (set rs i (share_of l left (get_or rs i 0))) ++ given l (left_after l left (get_or rs i 0)) (drop (i + 1) (set rs i (share_of l left (get_or rs i 0)))) ≡ take i rs ++ given l left (drop i rs)
unfolding given
given_more rs i l left h =
    let r = get_or rs i 0 in
    let s = share_of l left r in
    rw (add-one, take-suc-set rs i s h, drop-set-lt (suc i) rs i s (lt-suc_self i), drop-cons rs i 0 h) (append_assoc (take i rs) (s ∷ []) (given l (left_after l left r) (drop (suc i) rs)))

-- ---- nothing more
module _ (rs : List ℕ) (i : ℕ) (h : length rs ≤ i) where
  pub total_end : total (drop i rs) ≡ 0
  unfolding total
  total_end = rw (drop_of_length-le rs h)

  pub under_end : (l : ℕ) → under l (drop i rs) ≡ 0
  unfolding under
  under_end l = rw (drop_of_length-le rs h)

  pub above_end : (l : ℕ) → above l (drop i rs) ≡ 0
  unfolding above
  above_end l = rw (drop_of_length-le rs h)

  pub given_end : (l left : ℕ) → take i rs ++ given l left (drop i rs) ≡ rs
  unfolding given
  given_end l left = rw (drop_of_length-le rs h, take_all i rs h) (append-nil rs)

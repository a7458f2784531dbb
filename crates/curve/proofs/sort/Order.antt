-- What the steps of the sort, and the two ends, do to the points of a curve.
use Rattle.std.proofs.Common.{◌≡◌, ℕ, suc, ◌+◌, ◌-◌, ◌<◌, ◌≤◌, Bool, true, false, cond, List, [], ◌∷◌, ◌++◌, length, get_or, take, drop, set, sym, refl, ap, ◌∙◌, append_assoc, add-one, arith, drop_of_length-le, length-take, length-take-le, get_or-take, take_at, drop-set-lt}
use native.Mathlib.Nat.{min-le_left}
use Rattle.std.proofs.lemmas.List.{drop_more, take_more, take_more_set}
use Rattle.std.proofs.lemmas.Slice.{between_is}
use lib.Seq.{take-set-lt}
use lib.Ieee.{lt}
use Rattle.curve.specs.F64.{ratio}
use Rattle.curve.specs.Code.Places.{put_first}
use Rattle.curve.specs.Curve.{lower, upper, insert, sort_into, with_start, with_end}
use Rattle.curve.specs.declared.points.Point.{Point}

nothing_left : (l : List Point) (n : ℕ) → drop n (take n l) ≡ []
nothing_left l n =
    let long : length (take n l) ≤ n = rw length-take (min-le_left n (length l)) in
    drop_of_length-le (take n l) long

-- one step of the insertion, with the point in whose place p would stand
pub insert-step : (l : List Point) (j n : ℕ) (p d : Point) → j < n → n ≤ length l
    → take j l ++ insert p (drop j (take n l))
    ≡ take (j + 1) (set l j (lower p (get_or l j d))) ++ insert (upper p (get_or l j d)) (drop (j + 1) (take n (set l j (lower p (get_or l j d)))))
unfolding insert
insert-step l j n p d h b =
    let r = lower p (get_or l j d) in
    let t = take n l in
    let in-t : j < length t = rw (length-take-le n l b) h in
    let left : drop j t ≡ get_or l j d ∷ drop (j + 1) t = drop_more t j d in-t ∙ rw (get_or-take n l j d h) in
    let ahead : drop (j + 1) (take n (set l j r)) ≡ drop (j + 1) t = rw (take-set-lt n l j r h, drop-set-lt (j + 1) t j r (omega arith)) in
    rw (left, take_more_set l j r (omega arith), ahead) (sym (append_assoc (take j l) (r ∷ []) _))

-- the last step
pub insert_end : (l : List Point) (n : ℕ) (p : Point) → n < length l
    → take n l ++ insert p (drop n (take n l)) ≡ take (n + 1) (set l n p)
unfolding insert
insert_end l n p h = rw (take_more_set l n p h, nothing_left l n)

-- ---- the sort

-- one step: the point after the first i is put among them
pub sort_step : (l l' : List Point) (i n : ℕ) (d : Point) → i < n → n ≤ length l
    → take (i + 1) l' ≡ insert (get_or l i d) (take i l) → drop (i + 1) l' ≡ drop (i + 1) l
    → sort_into (take i l) (drop i (take n l)) ≡ sort_into (take (i + 1) l') (drop (i + 1) (take n l'))
unfolding sort_into
sort_step l l' i n d h b placed kept =
    let in-t : i < length (take n l) = rw (length-take-le n l b) h in
    let left : drop i (take n l) ≡ get_or l i d ∷ drop (i + 1) (take n l) = drop_more (take n l) i d in-t ∙ rw (get_or-take n l i d h) in
    let rest : drop (i + 1) (take n l') ≡ drop (i + 1) (take n l) = rw (← between_is l' (i + 1) n, ← between_is l (i + 1) n, kept) in
    rw (left, placed, rest)

pub sort_end : (l : List Point) (n : ℕ) (done : List Point) → sort_into done (drop n (take n l)) ≡ done
unfolding sort_into
sort_end l n done = rw (nothing_left l n)

-- ---- the two ends

-- a point in front of the first n makes one more
pub points-first : (l : List Point) (n : ℕ) (x : Point) → n ≤ length l → take (n + 1) (put_first l n x) ≡ x ∷ take n l
points-first l n x h = rw (add-one, take_at (take n l) (drop (suc n) l) n (length-take-le n l h))

-- what `with_start` says of the first point
pub start_of : (l : List Point) (n : ℕ) (d : Point) → 0 < n → n ≤ length l
    → with_start (take n l) ≡ cond (lt (ratio 0 1) (get_or l 0 d).soc) (record { soc = ratio 0 1; power = (get_or l 0 d).power } ∷ take n l) (take n l)
unfolding with_start
start_of l n d h b =
    let in-t : 0 < length (take n l) = rw (length-take-le n l b) h in
    let split : take n l ≡ get_or l 0 d ∷ drop 1 (take n l) = drop_more (take n l) 0 d in-t ∙ rw (get_or-take n l 0 d h) in
    rw split

with_end_snoc : (ps : List Point) (p : Point) → with_end (ps ++ (p ∷ [])) ≡ ps ++ with_end (p ∷ [])
unfolding with_end
with_end_snoc [] p = refl
with_end_snoc (q ∷ []) p = refl
with_end_snoc (q ∷ r ∷ ps) p = ap (λ (l : List Point). q ∷ l) (with_end_snoc (r ∷ ps) p)

-- what `with_end` says of the last point
pub end_of : (l : List Point) (n : ℕ) (d : Point) → 0 < n → n ≤ length l
    → with_end (take n l)
    ≡ cond (lt (get_or l (n - 1) d).soc (ratio 1 1)) (take n l ++ (record { soc = ratio 1 1; power = (get_or l (n - 1) d).power } ∷ [])) (take n l)
unfolding with_end
end_of l n d h b =
    let q = get_or l (n - 1) d in
    let one : n - 1 + 1 ≡ n = omega arith in
    let split : take n l ≡ take (n - 1) l ++ (q ∷ []) = rw one at (take_more l (n - 1) d (omega arith)) in
    rw (split, with_end_snoc) (go (lt q.soc (ratio 1 1)) (take (n - 1) l) q (record { soc = ratio 1 1; power = q.power }))
  where
    go : (x : Bool) (ps : List Point) (q r : Point) → ps ++ cond x (q ∷ r ∷ []) (q ∷ []) ≡ cond x ((ps ++ (q ∷ [])) ++ (r ∷ [])) (ps ++ (q ∷ []))
    go true ps q r = sym (append_assoc ps (q ∷ []) (r ∷ []))
    go false ps q r = refl

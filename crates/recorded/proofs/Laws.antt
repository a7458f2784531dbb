-- Laws of what is read of a record and written of a call. Assumes nothing.
use Rattle.std.proofs.Common.{◌≡◌, ℕ, zero, suc, ◌+◌, ◌-◌, ◌*◌, ◌<◌, ◌≤◌, List, [], ◌∷◌, ◌++◌, drop, take, length, get_or, get_or-drop, drop-drop, length-set, set, add-one, drop-cons, append-nil, length-append, arith, refl, min, Result, Ok, Err}
use Rattle.std.specs.List.{AllZip, flat_map}
use Rattle.std.proofs.lemmas.List.{drop_all, set_past}
use Rattle.std.proofs.lemmas.List.Concat.{flat_map-append}
use Rattle.std.proofs.lemmas.List.Sums.{fold-append}
use lib.Seq.{length-sets, sets, sets-eq, take-nil}
use Rattle.plan.specs.Bytes.{bytes, le_at}
use Rattle.plan.proofs.bytes.Laws.{le_at-drop, length-bytes, sets_append}
use Rattle.recorded.specs.Replay.{Calls, after_change, after_changes, change, changes, digest_of, mix}

-- a number of two bytes, of four and of eight is read in two parts
pub two_bytes : (s : List ℕ) → le_at 1 s 0 + 256 * le_at 1 (drop 1 s) 0 ≡ le_at 2 s 0
unfolding le_at
two_bytes s = let e : get_or (drop 1 s) 0 0 ≡ get_or s 1 0 = get_or-drop 1 s 0 0 in omega (arith, e)

pub four_bytes : (s : List ℕ) → le_at 2 s 0 + 65536 * le_at 2 (drop 2 s) 0 ≡ le_at 4 s 0
unfolding le_at
four_bytes s =
    let e : get_or (drop 2 s) 0 0 ≡ get_or s 2 0 = get_or-drop 2 s 0 0 in
    let f : get_or (drop 2 s) 1 0 ≡ get_or s 3 0 = get_or-drop 2 s 1 0 in
    omega (arith, e, f)

pub eight_bytes : (s : List ℕ) → le_at 4 s 0 + 4294967296 * le_at 4 (drop 4 s) 0 ≡ le_at 8 s 0
unfolding le_at
eight_bytes s =
    let e : get_or (drop 4 s) 0 0 ≡ get_or s 4 0 = get_or-drop 4 s 0 0 in
    let f : get_or (drop 4 s) 1 0 ≡ get_or s 5 0 = get_or-drop 4 s 1 0 in
    let g : get_or (drop 4 s) 2 0 ≡ get_or s 6 0 = get_or-drop 4 s 2 0 in
    let h : get_or (drop 4 s) 3 0 ≡ get_or s 7 0 = get_or-drop 4 s 3 0 in
    omega (arith, e, f, g, h)

-- one change less is left to make
pub changes_step : (n i place count : ℕ) (r r1 r2 r3 from b new t u : List ℕ) → i < n
    → place ≡ le_at 2 r 0 → r1 ≡ drop 2 r → count ≡ le_at 1 r1 0 → r2 ≡ drop 1 r1 → from ≡ take count r2 → r3 ≡ drop count r2 → new ≡ sets b place from
    → (changes (n - i) r b ≡ t) × (after_changes (n - i) r ≡ u)
    → (changes (n - (i + 1)) r3 new ≡ t) × (after_changes (n - (i + 1)) r3 ≡ u)
unfolding change after_change changes after_changes
changes_step n i place count r r1 r2 r3 from b new t u h p e1 q e2 f e3 g (m, l) =
    let s : n - i ≡ suc (n - (i + 1)) = omega arith in
    let c : count ≡ le_at 1 r 2 = rw (q, e1) (le_at-drop 1 2 r 0) in
    let d : r2 ≡ drop 3 r = rw (e2, e1) (drop-drop 1 2 r) in
    let left : r3 ≡ drop (3 + le_at 1 r 2) r = rw (e3, d, c) (drop-drop (le_at 1 r 2) 3 r) in
    let made : new ≡ sets b (le_at 2 r 0) (take (le_at 1 r 2) (drop 3 r)) = rw (g, p, f, c, d) in
    (rw (left, made) (rw s at m), rw left (rw s at l))

-- nothing is stored past a list's end
pub sets_past : (s : List ℕ) (i : ℕ) (xs : List ℕ) → length s ≤ i → sets s i xs ≡ s
sets_past s i [] h = refl
sets_past s i (x ∷ xs) h = rw (set_past s i x h, sets_past s (suc i) xs (omega arith))

-- so what would be stored there may be left out
pub sets_cut : (s : List ℕ) (i n : ℕ) (xs : List ℕ) → i ≤ length s → n ≡ min (length xs) (length s - i) → sets s i (take n xs) ≡ sets s i xs
sets_cut s i n [] h e = rw take-nil
sets_cut s i zero (x ∷ xs) h e = rw (sets_past s i (x ∷ xs) (omega (arith, e)))
sets_cut s i (suc n) (x ∷ xs) h e = sets_cut (set s i x) (suc i) n xs (rw length-set (omega (arith, e))) (rw length-set (omega (arith, e)))

-- one number more of a digest
abbrev pub Digests : {T : Type 0} → (T → ℕ → Type 0) → List T → ℕ → Type 0
Digests converts s sum = (xs : List ℕ) × AllZip converts s xs × (sum ≡ digest_of xs)

AllZip-more : {A B : Type 0} (R : A → B → Type 0) (xs : List A) (ys : List B) (x : A) (y : B) → AllZip R xs ys → R x y → AllZip R (xs ++ x ∷ []) (ys ++ y ∷ [])
AllZip-more R [] [] x y h r = (r, tt)
AllZip-more R [] (z ∷ ys) x y h r = absurd h
AllZip-more R (z ∷ xs) [] x y h r = absurd h
AllZip-more R (w ∷ xs) (z ∷ ys) x y h r = (h.0, AllZip-more R xs ys x y h.1 r)

pub digests_more : {T : Type 0} (converts : T → ℕ → Type 0) (s : List T) (sum next : ℕ) (x : T)
    → Digests converts s sum → (n : ℕ) × converts x n × (next ≡ mix sum n) → Digests converts (s ++ x ∷ []) next
unfolding digest_of
digests_more converts s sum next x h (n, k, e) = (h.0 ++ n ∷ [], AllZip-more converts s h.0 x n h.1 k, rw (fold-append, ← h.2, e))

-- one call more
module _ {F R E : Type 0} (called : F → R → Result (Unit {0}) E → F → R → Type 0) (n i : ℕ) (f g : F) (x y : R) where
  pub calls_step : (answer : Result (Unit {0}) E) → i < n → called f x (Ok tt) g y → Calls called (n - (i + 1)) g y answer → Calls called (n - i) f x answer
  unfolding Calls
  calls_step answer h c more =
      let s : n - i ≡ suc (n - (i + 1)) = omega arith in
      rw s (Ok tt, g, y, c, more)

  -- which fails
  pub calls_end : (e : E) → i < n → called f x (Err e) g y → Calls called (n - i) f x (Err e)
  unfolding Calls
  calls_end e h c =
      let s : n - i ≡ suc (n - (i + 1)) = omega arith in
      rw s (Err e, g, y, c, refl)

-- the bytes of numbers
pub length-numbers : (xs : List ℕ) → length (flat_map (bytes 8) xs) ≡ 8 * length xs
length-numbers [] = refl
length-numbers (x ∷ xs) = rw (length-append, length-bytes, length-numbers xs) (omega arith)

pub number_step : (s new t xs : List ℕ) (i : ℕ) → i < length xs → new ≡ sets s (8 * i) (bytes 8 (get_or xs i 0))
    → sets s (8 * i) (flat_map (bytes 8) (drop i xs)) ≡ t → sets new (8 * (i + 1)) (flat_map (bytes 8) (drop (i + 1) xs)) ≡ t
number_step s new t xs i h f e =
    let q : 8 * (i + 1) ≡ 8 * i + 8 = omega arith in
    rw (f, q, add-one) (rw (drop-cons xs i 0 h, sets_append, length-bytes) at e)

pub two_numbers : (s zeros xs : List ℕ) (a b : ℕ) → length xs ≡ 11 → length s ≡ 104 → s ≡ sets zeros 0 (flat_map (bytes 8) xs)
    → sets (sets s 88 (bytes 8 a)) 96 (bytes 8 b) ≡ flat_map (bytes 8) (xs ++ a ∷ b ∷ [])
two_numbers s zeros xs a b h k e =
    let m : length (flat_map (bytes 8) xs) ≡ 88 = omega (arith, length-numbers xs, h) in
    let l : length zeros ≡ 104 = rw (e, length-sets) at k in
    let all : List ℕ = flat_map (bytes 8) xs ++ (bytes 8 a ++ bytes 8 b) in
    let n : length all ≡ 104 = rw (length-append, length-append, m, length-bytes 8 a, length-bytes 8 b) in
    let whole : sets zeros 0 all ≡ all = rw (sets-eq all zeros 0 (omega (arith, n, l)), n, drop_all 104 zeros (omega (arith, l)), append-nil) in
    rw (e, flat_map-append, append-nil) (rw (sets_append, sets_append, m, length-bytes) at whole)

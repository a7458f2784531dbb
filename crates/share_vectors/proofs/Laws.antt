-- Laws of a list that is read and answered. Assumes nothing.
use Rattle.std.proofs.Common.{◌≡◌, ℕ, zero, suc, ◌+◌, ◌*◌, ◌≤◌, min, List, [], ◌∷◌, ◌++◌, length, take, drop, refl, ap, ◌∙◌, arith, add-one, zero-add}
use Rattle.std.specs.List.{flat_map}
use Rattle.std.proofs.lemmas.List.{drop-drop, drop_all, take_all}
use lib.Seq.{sets, sets-eq, take-append_seam}
use Rattle.plan.specs.Bytes.{bytes, le_at}
use Rattle.shares.specs.Shares.{shares}
use Rattle.recorded.proofs.Laws.{length-numbers}
use Rattle.share_vectors.specs.Lists.{watts_first, requests, share_numbers, answer_of, after_list}

-- one request more
requests_last : (n : ℕ) (rest : List ℕ) → requests (suc n) rest ≡ requests n rest ++ (watts_first (drop (8 * n) rest) ∷ [])
requests_last zero rest = refl
requests_last (suc n) rest =
    let e : 8 * suc n ≡ 8 + 8 * n = omega arith in
    rw (e, ← drop-drop (8 * n) 8 rest) (ap (λ (l : List ℕ). watts_first rest ∷ l) (requests_last n (drop 8 rest)))

pub requests_more : (n w : ℕ) (rest now ws : List ℕ) → ws ≡ requests n rest → now ≡ drop (8 * n) rest → w ≡ watts_first now → ws ++ (w ∷ []) ≡ requests (n + 1) rest
requests_more n w rest now ws h e f = rw (add-one, requests_last n rest, f, e, h)

-- what follows them
pub left_more : (n : ℕ) (rest now : List ℕ) → now ≡ drop (8 * n) rest → drop 8 now ≡ drop (8 * (n + 1)) rest
left_more n rest now e =
    let f : 8 * (n + 1) ≡ 8 * n + 8 = omega arith in
    rw (e, drop-drop 8 (8 * n) rest, f)

-- a list is read in three parts, and all of its shares are given
module _ (rest r1 r2 : List ℕ) (b n : ℕ) (first : b ≡ le_at 1 rest 0) (one : r1 ≡ drop 1 rest) (few : n ≡ min b 32) (nine : r2 ≡ drop 8 r1) where
  both : r2 ≡ drop 9 rest
  both = rw (nine, one) (drop-drop 8 1 rest)

  pub answered : (limit i : ℕ) (watts shared items : List ℕ) → limit ≡ watts_first r1 → watts ≡ requests n r2 → shared ≡ shares watts limit → length shared ≤ i
      → items ≡ limit ∷ flat_map share_numbers (take i shared) → items ≡ answer_of rest
  unfolding answer_of
  answered limit i watts shared items l w s h e = rw (e, take_all i shared h, s, w, few, first, both, l, one)

  pub list_left : (r3 : List ℕ) → r3 ≡ drop (8 * n) r2 → r3 ≡ after_list rest
  unfolding after_list
  list_left r3 e = rw (e, both, drop-drop (8 * n) 9 rest, few, first)

-- the bytes of numbers at the start of a buffer
pub bytes_first : (zeros out xs : List ℕ) (i : ℕ) → 8 * length xs ≤ length zeros → length xs ≤ i → sets out (8 * i) (flat_map (bytes 8) (drop i xs)) ≡ sets zeros 0 (flat_map (bytes 8) xs)
    → take (8 * length xs) out ≡ flat_map (bytes 8) xs
bytes_first zeros out xs i h k e =
    let all : List ℕ = flat_map (bytes 8) xs in
    let n : length all ≡ 8 * length xs = length-numbers xs in
    let o : out ≡ all ++ drop (length all) zeros = rw (drop_all i xs k) at e ∙ sets-eq all zeros 0 (omega (arith, n, h)) ∙ rw zero-add in
    rw (o, ← n) (take-append_seam all (drop (length all) zeros))

-- Laws of little-endian numbers, of fields and of runs of stores. Assumes nothing.
use Rattle.std.proofs.Common.{◌≡◌, ℕ, zero, suc, ◌+◌, ◌-◌, ◌*◌, ◌/◌, ◌%◌, ◌^◌, ◌<◌, ◌≤◌, List, [], ◌∷◌, ◌++◌, length, get_or, take, drop, set, refl, ap, append_assoc, append-nil, lt_of_lt_of_le, add-zero, add-suc, suc-add, pow-suc, mul-zero, mul-suc, add-one, arith, lit<, length-append, get_or-drop, drop-cons, get_or-take, drop-drop, get_or-append-add, drop_at, length-drop, length-take-le, ◌∙◌}
use native.Mathlib.Nat.{pow-le-pow_right}
use lib.ListN.{get_or-append}
use lib.Seq.{sets, sets-eq}
use borrow.Rule.Slice.PartMut.{put_mid}
use Rattle.plan.specs.Bytes.{le_at, bytes, stretch, fields, in_a_row, pieces}

-- ---- a number that is read

-- a number of n bytes is below 256 ^ n
pub le_at_lt : (n : ℕ) (s : List ℕ) (at : ℕ) → ((k : ℕ) → get_or s k 0 < 256) → le_at n s at < 256 ^ n
unfolding le_at
le_at_lt zero s at h = omega arith
le_at_lt (suc n) s at h = rw pow-suc (omega (arith, h at, le_at_lt n s (suc at) h))

-- a number of at most n bytes is below 256 ^ n
pub le_at-below : (n m : ℕ) (s : List ℕ) (at : ℕ) → ((k : ℕ) → get_or s k 0 < 256) → m ≤ n → le_at m s at < 256 ^ n
le_at-below n m s at h k = lt_of_lt_of_le (le_at_lt m s at h) (pow-le-pow_right (lit< tt) k)

-- one more byte of a number, below the others
pub get_step : (s : List ℕ) (at n v b i : ℕ) → 0 < i → i ≤ n → v ≡ le_at (n - i) s (at + i) → b ≡ get_or s (at + (i - 1)) 0
    → v * 256 + b ≡ le_at (n - (i - 1)) s (at + (i - 1))
unfolding le_at
get_step s at n v b i h k e f =
    let p : n - (i - 1) ≡ suc (n - i) = omega arith in
    let q : suc (at + (i - 1)) ≡ at + i = omega arith in
    rw (p, q) (omega arith)

-- a number is read in the first of two lists, or in the second
pub le_at_left : (n : ℕ) (a b : List ℕ) (at : ℕ) → at + n ≤ length a → le_at n (a ++ b) at ≡ le_at n a at
unfolding le_at
le_at_left zero a b at h = refl
le_at_left (suc n) a b at h = rw (get_or-append a b 0 at (omega arith), le_at_left n a b (suc at) (omega arith))

pub le_at_right : (n : ℕ) (a b : List ℕ) (at : ℕ) → le_at n (a ++ b) (length a + at) ≡ le_at n b at
unfolding le_at
le_at_right zero a b at = refl
le_at_right (suc n) a b at = rw (get_or-append-add a b at 0, ← add-suc (length a) at, le_at_right n a b (suc at))

-- a number of what follows the first a bytes
pub le_at-drop : (n a : ℕ) (s : List ℕ) (at : ℕ) → le_at n (drop a s) at ≡ le_at n s (a + at)
unfolding le_at
le_at-drop zero a s at = refl
le_at-drop (suc n) a s at = rw (get_or-drop a s at 0, le_at-drop n a s (suc at), add-suc)

-- a number of the first m bytes
pub le_at-take : (n m : ℕ) (s : List ℕ) (at : ℕ) → at + n ≤ m → le_at n (take m s) at ≡ le_at n s at
unfolding le_at
le_at-take zero m s at h = refl
le_at-take (suc n) m s at h = rw (get_or-take m s at 0 (omega arith), le_at-take n m s (suc at) (omega arith))

-- a number of bytes that are the same
pub le_at-same : (n : ℕ) (a b : List ℕ) (at : ℕ) → ((k : ℕ) → at ≤ k → k < at + n → get_or a k 0 ≡ get_or b k 0) → le_at n a at ≡ le_at n b at
unfolding le_at
le_at-same zero a b at h = refl
le_at-same (suc n) a b at h = rw (h at (omega arith) (omega arith), le_at-same n a b (suc at) (λ k l m. h k (omega arith) (omega arith)))

-- a number of zero bytes is 0
pub le_at_zero : (n : ℕ) (s : List ℕ) (at : ℕ) → ((k : ℕ) → at ≤ k → k < at + n → get_or s k 0 ≡ 0) → le_at n s at ≡ 0
unfolding le_at
le_at_zero zero s at h = refl
le_at_zero (suc n) s at h = omega (arith, h at (omega arith) (omega arith), le_at_zero n s (suc at) (λ k l m. h k (omega arith) (omega arith)))

-- ---- a number that is written

pub length-bytes : (n v : ℕ) → length (bytes n v) ≡ n
unfolding bytes
length-bytes zero v = refl
length-bytes (suc n) v = ap suc (length-bytes n (v / 256))

-- a number that is written is read back
pub le_at-bytes : (n v : ℕ) (r : List ℕ) → v < 256 ^ n → le_at n (bytes n v ++ r) 0 ≡ v
unfolding le_at bytes
le_at-bytes zero v r h = omega arith
le_at-bytes (suc n) v r h =
    let k : v / 256 < 256 ^ n = omega (arith, rw pow-suc at h) in
    rw (le_at_right n (v % 256 ∷ []) (bytes n (v / 256) ++ r) 0, le_at-bytes n (v / 256) r k) (omega arith)

pub read_back : (n v : ℕ) → v < 256 ^ n → le_at n (bytes n v) 0 ≡ v
read_back n v h = rw append-nil at (le_at-bytes n v [] h)

-- bytes that are read as a number are the number's bytes
pub bytes-le_at : (n : ℕ) (s : List ℕ) (at : ℕ) → ((k : ℕ) → get_or s k 0 < 256) → at + n ≤ length s
    → bytes n (le_at n s at) ≡ take n (drop at s)
unfolding bytes le_at
bytes-le_at zero s at h k = refl
bytes-le_at (suc n) s at h k =
    let x : ℕ = get_or s at 0 in
    let y : ℕ = le_at n s (suc at) in
    let p : (x + 256 * y) % 256 ≡ x = omega (arith, h at) in
    let q : (x + 256 * y) / 256 ≡ y = omega (arith, h at) in
    rw (p, q, drop-cons s at 0 (omega arith), bytes-le_at n s (suc at) h (omega arith))

-- one store of a number's bytes
pub put_step : (s t : List ℕ) (at n rest i : ℕ) → i < n → sets s (at + i) (bytes (n - i) rest) ≡ t
    → sets (set s (at + i) (rest % 256)) (at + (i + 1)) (bytes (n - (i + 1)) (rest / 256)) ≡ t
unfolding bytes
put_step s t at n rest i h e =
    let p : n - i ≡ suc (n - (i + 1)) = omega arith in
    let q : at + (i + 1) ≡ suc (at + i) = omega arith in
    rw q (rw p at e)

-- one store of a run of stores, of bytes or of other numbers
pub store_step : (s t row : List ℕ) (at i : ℕ) → i < length row → sets s (at + i) (drop i row) ≡ t
    → sets (set s (at + i) (get_or row i 0)) (at + (i + 1)) (drop (i + 1) row) ≡ t
store_step s t row at i h e =
    let q : at + (i + 1) ≡ suc (at + i) = omega arith in
    rw (q, add-one) (rw (drop-cons row i 0 h) at e)

-- a run of stores at once
pub stored_at : (s new row : List ℕ) (at : ℕ) → at + length row ≤ length s → new ≡ row → put_mid at (at + length row - at) s new ≡ sets s at row
stored_at s new row at h e =
    let k : at + length row - at ≡ length row = omega arith in
    rw (e, k, sets-eq row s at h, append_assoc, ← drop-drop)

-- a run of stores in two parts
pub sets_append : (l : List ℕ) (i : ℕ) (a b : List ℕ) → sets l i (a ++ b) ≡ sets (sets l i a) (i + length a) b
sets_append l i [] b = rw add-zero
sets_append l i (x ∷ a) b = rw (sets_append (set l i x) (suc i) a b, suc-add, ← add-suc)

-- what is stored behind what was stored
pub sets_behind : (s t u x y : List ℕ) (at next : ℕ) → t ≡ sets s at x → next ≡ at + length x → u ≡ sets t next y → u ≡ sets s at (x ++ y)
sets_behind s t u x y at next p e q = rw (q, p, e, sets_append s at x y)

-- ---- what stands behind other bytes

-- a number that was written
pub number_there : (b p : List ℕ) (n v at : ℕ) (r : List ℕ) → b ≡ p ++ (bytes n v ++ r) → length p ≡ at → v < 256 ^ n → le_at n b at ≡ v
number_there b p n v at r e l h = rw (e, ← l) (rw add-zero at (le_at_right n p (bytes n v ++ r) 0) ∙ le_at-bytes n v r h)

pub length-stretch : (s : List ℕ) (from to : ℕ) → to ≤ length s → length (stretch s from to) ≡ to - from
length-stretch s from to h = length-take-le (to - from) (drop from s) (omega (arith, length-drop from s))

-- bytes that were copied to their own places
pub stretch_there : (b p s r : List ℕ) (from to : ℕ) → b ≡ p ++ (stretch s from to ++ r) → length p ≡ from → to ≤ length s
    → (k : ℕ) → from ≤ k → k < to → get_or b k 0 ≡ get_or s k 0
stretch_there b p s r from to e l h k m n =
    let i : ℕ = k - from in
    let own : from + i ≡ k = omega arith in
    let there : length p + i ≡ k = omega (arith, l) in
    let long = length-stretch s from to h in
    let read : get_or (p ++ (stretch s from to ++ r)) (length p + i) 0 ≡ get_or s (from + i) 0
    = get_or-append-add p _ i 0 ∙ get_or-append (stretch s from to) r 0 i (omega (arith, long)) ∙ get_or-take (to - from) (drop from s) i 0 (omega arith) ∙ get_or-drop from s i 0 in
    rw e (rw (there, own) at read)

-- ---- fields, one after the other

fields-drop : (f : List (ℕ × ℕ)) (i : ℕ) → i < length f
    → fields (in_a_row (drop i f)) ≡ bytes (get_or f i (0, 0)).0 (get_or f i (0, 0)).1 ++ fields (in_a_row (drop (i + 1) f))
unfolding fields
fields-drop f i h = rw (drop-cons f i (0, 0) (omega arith), add-one)

-- one field more of a run of stores
pub fields-step : (s t : List ℕ) (f : List (ℕ × ℕ)) (p i : ℕ) → i < length f → sets s p (fields (in_a_row (drop i f))) ≡ t
    → sets (sets s p (bytes (get_or f i (0, 0)).0 (get_or f i (0, 0)).1)) (p + (get_or f i (0, 0)).0) (fields (in_a_row (drop (i + 1) f))) ≡ t
fields-step s t f p i h e =
    rw (fields-drop f i h, sets_append, length-bytes) at e

-- what is left to store, with one field less
pub fields_left : (f : List (ℕ × ℕ)) (i : ℕ) → i < length f
    → length (fields (in_a_row (drop i f))) ≡ (get_or f i (0, 0)).0 + length (fields (in_a_row (drop (i + 1) f)))
fields_left f i h = rw (fields-drop f i h, length-append, length-bytes)

-- ---- pieces of one length

-- a list begins with another
unfoldable pub Begins : List ℕ → List ℕ → Type 0
Begins b a = (r : List ℕ) × (b ≡ a ++ r)

pub next_place : (w i : ℕ) → w * suc i ≡ w + w * i
next_place w i = rw mul-suc (omega arith)

module _ (f : ℕ → List ℕ) (w : ℕ) (long : (k : ℕ) → length (f k) ≡ w) where
  pub length-pieces : (k m : ℕ) → length (pieces f k m) ≡ w * m
  unfolding pieces
  length-pieces k zero = omega arith
  length-pieces k (suc m) = rw (length-append, long, length-pieces (k + 1) m, mul-suc) (omega arith)

  -- one piece more of a run of stores
  pub pieces_step : (s t : List ℕ) (at k n i : ℕ) → i < n → sets s (at + w * i) (pieces f k (n - i)) ≡ t
      → sets (sets s (at + w * i) (f k)) (at + w * (i + 1)) (pieces f (k + 1) (n - (i + 1))) ≡ t
  unfolding pieces
  pieces_step s t at k n i h e =
      let p : n - i ≡ suc (n - (i + 1)) = omega arith in
      let r : at + w * (i + 1) ≡ at + w * i + w = rw (add-one, mul-suc) (omega arith) in
      rw r (rw (p, sets_append, long) at e)

  -- what follows the first i pieces begins with the next one
  pub piece_at : (k m i : ℕ) (r : List ℕ) → i < m → Begins (drop (w * i) (pieces f k m ++ r)) (f (k + i))
  unfolding pieces Begins
  piece_at k zero i r h = absurd (omega arith)
  piece_at k (suc m) zero r h = (pieces f (k + 1) m ++ r, rw (mul-zero, add-zero, append_assoc))
  piece_at k (suc m) (suc i) r h =
      let next = piece_at (k + 1) m i r (omega arith) in
      let e : k + suc i ≡ k + 1 + i = omega arith in
      let d : drop w (f k ++ (pieces f (k + 1) m ++ r)) ≡ pieces f (k + 1) m ++ r = drop_at (f k) _ w (long k) in
      (next.0, rw (e, append_assoc, next_place, ← drop-drop, d) next.1)

-- Bytes taken apart: a run of bytes is its pieces of one length, or its fields, one after the other; and pieces themselves. Assumes nothing.
use Rattle.std.proofs.Common.{◌≡◌, ℕ, zero, suc, ◌+◌, ◌*◌, ◌<◌, ◌≤◌, List, [], ◌∷◌, ◌++◌, length, get_or, take, drop, refl, append_assoc, add-zero, suc-add, mul-zero, zero-add, arith, drop-drop, take-add}
use Rattle.plan.specs.Bytes.{le_at, bytes, fields, pieces}
use Rattle.plan.proofs.bytes.Laws.{bytes-le_at, next_place}

-- the first a + b bytes from a place on are the first a, and the next b
split : (a b at : ℕ) (s : List ℕ) → take (a + b) (drop at s) ≡ take a (drop at s) ++ take b (drop (at + a) s)
split a b at s = rw (take-add, drop-drop)

-- what stands in each of m places of w bytes, one after the other
pub pieces_apart : (f : ℕ → List ℕ) (w : ℕ) (s : List ℕ) (at k m : ℕ) → at + w * m ≤ length s → ((i : ℕ) → i < m → take w (drop (at + w * i) s) ≡ f (k + i))
    → take (w * m) (drop at s) ≡ pieces f k m
unfolding pieces
pieces_apart f w s at k zero h e = rw mul-zero
pieces_apart f w s at k (suc m) h e =
    let first : take w (drop at s) ≡ f k = rw (mul-zero, add-zero, add-zero) at (e 0 (omega arith)) in
    let rest = pieces_apart f w s (at + w) (k + 1) m (omega (arith, next_place w m)) (λ i l.
    let p : at + w * suc i ≡ at + w + w * i = omega (arith, next_place w i) in
    let q : k + suc i ≡ k + 1 + i = omega arith in
    rw (p, q) at (e (suc i) (omega arith))) in
    rw (next_place w m, split w (w * m) at s, first, rest)

-- the fields of these widths from a place on, each with the number that it holds
abbrev pub held : List ℕ → List ℕ → ℕ → List ℕ
held [] s at = []
held (w ∷ ws) s at = w ∷ le_at w s at ∷ held ws s (at + w)

abbrev pub total : List ℕ → ℕ
total [] = 0
total (w ∷ ws) = w + total ws

pub fields_apart : (ws s : List ℕ) (at : ℕ) → ((k : ℕ) → get_or s k 0 < 256) → at + total ws ≤ length s → fields (held ws s at) ≡ take (total ws) (drop at s)
unfolding fields
fields_apart [] s at h k = refl
fields_apart (w ∷ ws) s at h k =
    rw (bytes-le_at w s at h (omega arith), fields_apart ws s (at + w) h (omega arith), split w (total ws) at s)

-- ---- pieces

-- two runs of pieces that agree one by one
pub pieces_same : (f g : ℕ → List ℕ) (k l m : ℕ) → ((i : ℕ) → i < m → f (k + i) ≡ g (l + i)) → pieces f k m ≡ pieces g l m
unfolding pieces
pieces_same f g k l zero h = refl
pieces_same f g k l (suc m) h =
    let first : f k ≡ g l = rw (add-zero, add-zero) at (h 0 (omega arith)) in
    let rest = pieces_same f g (k + 1) (l + 1) m (λ i b.
    let p : k + suc i ≡ k + 1 + i = omega arith in
    let q : l + suc i ≡ l + 1 + i = omega arith in
    rw (p, q) at (h (suc i) (omega arith))) in
    rw (first, rest)

pub pieces_add : (f : ℕ → List ℕ) (k a b : ℕ) → pieces f k (a + b) ≡ pieces f k a ++ pieces f (k + a) b
unfolding pieces
pieces_add f k zero b = rw (zero-add, add-zero)
pieces_add f k (suc a) b =
    let e : k + suc a ≡ k + 1 + a = omega arith in
    rw (suc-add, e, pieces_add f (k + 1) a b, append_assoc)

-- zero bytes in two parts
pub bytes_add : (a b : ℕ) → bytes (a + b) 0 ≡ bytes a 0 ++ bytes b 0
unfolding bytes
bytes_add zero b = rw zero-add
bytes_add (suc a) b = rw (suc-add, bytes_add a b)

-- pieces of zero bytes are zero bytes
pub pieces_zero : (f : ℕ → List ℕ) (w k m : ℕ) → ((i : ℕ) → i < m → f (k + i) ≡ bytes w 0) → pieces f k m ≡ bytes (w * m) 0
unfolding pieces bytes
pieces_zero f w k zero h = rw mul-zero
pieces_zero f w k (suc m) h =
    let first : f k ≡ bytes w 0 = rw add-zero at (h 0 (omega arith)) in
    let rest = pieces_zero f w (k + 1) m (λ i b.
    let p : k + suc i ≡ k + 1 + i = omega arith in
    rw p at (h (suc i) (omega arith))) in
    rw (next_place, bytes_add w (w * m), first, rest)

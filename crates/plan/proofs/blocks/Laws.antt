-- Laws of a block and its check. Assumes nothing.
use Rattle.std.proofs.Common.{◌≡◌, ℕ, zero, suc, ◌+◌, ◌*◌, ◌/◌, ◌%◌, ◌^◌, ◌<◌, ◌≤◌, true, ◌&&◌, eqb, ltb, leb, List, ◌++◌, length, get_or, take, drop, sym, refl, ◌∙◌, append_assoc, add-zero, zero-add, add-one, arith, length-append, length-drop, take-append-drop, length-take-le, take_all, take_at, drop_at, ltb-true, lt-ltb, eq-eqb, eqb-true, le-leb, leb-true}
use lib.Seq.{sets, sets-eq}
use Rattle.plan.specs.Bytes.{le_at, bytes, pieces}
use Rattle.plan.specs.Blocks.{words, check_of, sealed, passes, block, whole_blocks}
use Rattle.charger.proofs.Lists.{and_true}
use Rattle.plan.proofs.bytes.Laws.{sets_append, length-bytes, le_at_left, le_at_right, le_at-drop, le_at-take, read_back, bytes-le_at}
use Rattle.plan.proofs.bytes.Apart.{pieces_apart}

-- what whole blocks are
pub whole_blocks_lem : (n most : ℕ) → whole_blocks n most ≡ true → (0 < n) × ((n ≡ 512 * (n / 512)) × (n / 512 ≤ most))
unfolding whole_blocks
whole_blocks_lem n most e =
    let parts = and_true (ltb 0 n && eqb (n % 512) 0) (leb (n / 512) most) e in
    let long = and_true (ltb 0 n) (eqb (n % 512) 0) parts.0 in
    let rest : n % 512 ≡ 0 = eqb-true (n % 512) 0 long.1 in
    (ltb-true 0 n long.0, (omega arith, leb-true (n / 512) most parts.1))

-- n blocks are whole
pub blocks_whole : (n most : ℕ) → 0 < n → n ≤ most → whole_blocks (512 * n) most ≡ true
unfolding whole_blocks
blocks_whole n most h k =
    let rest : 512 * n % 512 ≡ 0 = omega arith in
    let size : 512 * n / 512 ≡ n = omega arith in
    rw (lt-ltb 0 (512 * n) (omega arith), rest, size) (le-leb n most k)

-- one more word
pub check_step : (b : List ℕ) (place sum i : ℕ) → sum ≡ (place + words i b) % 2 ^ 32
    → (sum + le_at 4 b (4 * i)) % 2 ^ 32 ≡ (place + words (i + 1) b) % 2 ^ 32
unfolding words
check_step b place sum i e = rw (add-one, e) (omega arith)

words_left : (n : ℕ) (a b : List ℕ) → 4 * n ≤ length a → words n (a ++ b) ≡ words n a
unfolding words
words_left zero a b h = refl
words_left (suc n) a b h = rw (words_left n a b (omega arith), le_at_left 4 a b (4 * n) (omega arith))

-- the check is that of the first 508 bytes
pub check_left : (place : ℕ) (a b : List ℕ) → 508 ≤ length a → check_of place (a ++ b) ≡ check_of place a
unfolding check_of
check_left place a b h = rw (words_left 127 a b (omega arith))

check_lt : (place : ℕ) (b : List ℕ) → check_of place b < 256 ^ 4
unfolding check_of
check_lt place b = omega arith

-- THE BLOCK CHECK, for every kind of file. A block that is written with its check passes it,
pub sealed-passes : (place : ℕ) (body : List ℕ) → length body ≡ 508 → passes place (sealed place body) ≡ true
unfolding passes sealed
sealed-passes place body h =
    let c : ℕ = check_of place body in
    let read : le_at 4 (body ++ bytes 4 c) (length body + 0) ≡ c = le_at_right 4 body (bytes 4 c) 0 ∙ read_back 4 c (check_lt place body) in
    eq-eqb (le_at 4 (body ++ bytes 4 c) 508) (check_of place (body ++ bytes 4 c))
    (rw (check_left place body (bytes 4 c) (omega arith)) (rw (add-zero, h) at read))

-- and a block of bytes that passes is one that is written with its check.
pub passes-sealed : (place : ℕ) (b : List ℕ) → length b ≡ 512 → ((k : ℕ) → get_or b k 0 < 256) → passes place b ≡ true
    → b ≡ sealed place (take 508 b)
unfolding passes sealed
passes-sealed place b h k p =
    let t : List ℕ = take 508 b in
    let d : List ℕ = drop 508 b in
    let check : check_of place (t ++ d) ≡ check_of place t = check_left place t d (omega (arith, length-take-le 508 b (omega arith))) in
    let stored : le_at 4 b 508 ≡ check_of place b = eqb-true _ _ p in
    let tail : bytes 4 (le_at 4 b 508) ≡ take 4 d = bytes-le_at 4 b 508 k (omega arith) in
    let all : take 4 d ≡ d = take_all 4 d (omega (arith, length-drop 508 b)) in
    let whole : t ++ d ≡ b = take-append-drop 508 b in
    cc (whole, check, stored, tail, all)

-- ---- a block's check in a run of stores

-- what is stored is read back
pub take_sets : (s : List ℕ) (at n : ℕ) (body : List ℕ) → length body ≡ n → at + n ≤ length s → take n (drop at (sets s at body)) ≡ body
take_sets s at n body e h =
    rw (sets-eq body s at (omega arith), append_assoc, drop_at (take at s) (body ++ drop (at + length body) s) at (length-take-le at s (omega arith)))
    (take_at body _ n e)

-- a block's body is stored, and then its check
pub put_sealed : (s a b : List ℕ) (at place : ℕ) (body : List ℕ) → length body ≡ 508 → at + 508 ≤ length s → a ≡ sets s at body
    → b ≡ sets a (at + 508) (bytes 4 (check_of place (take 508 (drop at a)))) → b ≡ sets s at (sealed place body)
unfolding sealed
put_sealed s a b at place body e h p q = q ∙ rw (p, take_sets s at 508 body e h, sets_append s at body, e)

pub length-sealed : (place : ℕ) (body : List ℕ) → length body ≡ 508 → length (sealed place body) ≡ 512
unfolding sealed
length-sealed place body e = rw (length-append, length-bytes, e)

-- ---- a number in a block is one in the file

pub block_read : (n : ℕ) (file : List ℕ) (k at : ℕ) → at + n ≤ 512 → le_at n (block file k) at ≡ le_at n file (512 * k + at)
unfolding block
block_read n file k at h = le_at-take n 512 (drop (512 * k) file) at h ∙ le_at-drop n (512 * k) file at

-- a file that is m blocks is these blocks, one after the other
pub blocks_of : (file : List ℕ) (m : ℕ) → length file ≡ 512 * m → file ≡ pieces (block file) 0 m
unfolding block
blocks_of file m e =
    sym (take_all (512 * m) file (omega arith)) ∙ pieces_apart (λ k. take 512 (drop (512 * k) file)) 512 file 0 0 m (omega arith) (λ i h. rw (zero-add, zero-add))

-- Laws of the fields' tests.
use Rattle.std.proofs.Common.{◌≡◌, ℕ, zero, suc, ◌+◌, ◌-◌, ◌<◌, ◌≤◌, true, ◌&&◌, leb, List, ◌++◌, length, get_or, take, drop, refl, ap, arith, get_or-drop, get_or-append-add, leb-true}
use Rattle.charger.proofs.Lists.{and_true}
use Rattle.plan.specs.Bytes.{le_at, bytes}
use Rattle.plan.specs.Fields.{bytes_in, zeros}
use Rattle.plan.proofs.SearchLaws.{every_at, every_of, every_same}
use Rattle.plan.proofs.bytes.Laws.{le_at_zero, bytes-le_at}

-- bytes that are the same pass the same tests
pub bytes_in-same : (b c : List ℕ) (from to lo hi : ℕ) → ((k : ℕ) → from ≤ k → k < to → get_or b k 0 ≡ get_or c k 0) → bytes_in b from to lo hi ≡ bytes_in c from to lo hi
unfolding bytes_in
bytes_in-same b c from to lo hi h =
    every_same _ _ from (to - from) (λ k l m. ap (λ (x : ℕ). leb lo x && leb x hi) (h k l (omega arith)))

-- each byte of a run of zero bytes
pub zero_byte : (b : List ℕ) (from to k : ℕ) → zeros b from to ≡ true → from ≤ k → k < to → get_or b k 0 ≡ 0
unfolding bytes_in
zero_byte b from to k h l m =
    let two = and_true (leb 0 (get_or b k 0)) (leb (get_or b k 0) 0) (every_at (λ j. leb 0 (get_or b j 0) && leb (get_or b j 0) 0) from (to - from) h k l (omega arith)) in
    omega (arith, leb-true (get_or b k 0) 0 two.1)

-- such bytes hold the number 0
pub zeros_hold : (b : List ℕ) (at n : ℕ) → zeros b at (at + n) ≡ true → le_at n b at ≡ 0
zeros_hold b at n h = le_at_zero n b at (λ k l m. zero_byte b at (at + n) k h l m)

-- a part of such a run is zero bytes
pub zeros-part : (b : List ℕ) (from to at n : ℕ) → zeros b from to ≡ true → ((k : ℕ) → get_or b k 0 < 256) → from ≤ at → at + n ≤ to → at + n ≤ length b
    → take n (drop at b) ≡ bytes n 0
zeros-part b from to at n h byte l m s =
    let nothing : le_at n b at ≡ 0 = le_at_zero n b at (λ k p q. zero_byte b from to k h (omega arith) (omega arith)) in
    rw (← bytes-le_at n b at byte s, nothing)

-- a run of zero bytes behind the first bytes of a file
pub zeros-behind : (b : List ℕ) (at from to : ℕ) → zeros (drop at b) from to ≡ true → zeros b (at + from) (at + to) ≡ true
unfolding bytes_in
zeros-behind b at from to h =
    every_of _ (at + from) (at + to - (at + from)) (λ k l m.
    let i : ℕ = k - at in
    let p : k ≡ at + i = omega arith in
    let e : get_or b k 0 ≡ 0 = rw p (rw get_or-drop at (zero_byte (drop at b) from to i h (omega arith) (omega arith))) in
    rw e)

zero_at : (n k : ℕ) (r : List ℕ) → k < n → get_or (bytes n 0 ++ r) k 0 ≡ 0
unfolding bytes
zero_at zero k r h = absurd (omega arith)
zero_at (suc n) zero r h = refl
zero_at (suc n) (suc k) r h = zero_at n k r (omega arith)

-- a run of zero bytes in a file
pub zeros_there : (a r : List ℕ) (at n : ℕ) → length a ≡ at → zeros (a ++ (bytes n 0 ++ r)) at (at + n) ≡ true
unfolding bytes_in
zeros_there a r at n e =
    every_of _ at (at + n - at) (λ k l m.
    let i : ℕ = k - at in
    let p : k ≡ length a + i = omega arith in
    rw (p, get_or-append-add a (bytes n 0 ++ r) i 0, zero_at n i r (omega arith)))

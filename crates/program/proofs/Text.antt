-- Laws of text: a number in decimal digits, stored. Assumes nothing.
use mathlib.Core.Path.{◌≡◌, refl, sym, ◌∙◌, ap}
use mathlib.Core.Bool.{Bool, true, false, cond}
use mathlib.Core.List.{List, [], ◌∷◌, ◌++◌}
use Prim.Native.Nat.{ℕ, zero, suc, ◌+◌, ◌-◌, ◌*◌, ◌/◌, ◌^◌, ◌≤◌, ◌<◌}
use native.Mathlib.Nat.{zero-add, add-zero, pow-suc, one-le-pow, pow-le-pow_right}
use native.Mathlib.Numerals.{add-one}
use native.Mathlib.Omega.{arith, by_contra}
use lib.Dec.{ltb}
use lib.ListN.{length, get_or, take, drop, set, length-append, drop_of_length-le}
use lib.Seq.{sets, sets-eq, drop-cons, drop-nil}
use borrow.Author.Tests.{lt-ltb, le-ltb, ltb-true, ltb-false}
use Rattle.io.specs.Digits.{last_digits, IsDigitCount}
use Rattle.files.specs.Book.{written}
use Rattle.plan.proofs.bytes.Laws.{sets_append}
use Rattle.program.specs.Output.{places_of, decimal, behind, line}

-- the fewest digits that hold n are as many as the definition says
pub fewest : (k more n : ℕ) → k ≤ suc more → IsDigitCount 10 1 n k → k ≡ places_of more n
unfolding places_of
fewest zero more n h f = absurd (omega arith)
fewest (suc zero) zero n h f = refl
fewest (suc zero) (suc more) n h f = rw (lt-ltb n 10 (omega arith))
fewest (suc (suc k)) zero n h f = absurd (omega arith)
fewest (suc (suc k)) (suc more) n h f =
    let less : suc (suc k) - 1 ≡ suc k = omega arith in
    let low : 10 ^ suc k ≤ n = rw less at (f.2 (omega arith)) in
    let some : 1 ≤ 10 ^ k = one-le-pow k 10 (omega arith) in
    let rest : IsDigitCount 10 1 (n / 10) (suc k) = (
      omega arith,
      omega (arith, f.1, pow-suc 10 (suc k)),
      λ _. let e : suc k - 1 ≡ k = omega arith in rw e (omega (arith, low, pow-suc 10 k)),
    ) in
    rw (le-ltb n 10 (omega (arith, low, pow-suc 10 k))) (ap suc (fewest (suc k) more (n / 10) (omega arith) rest))

-- a 64-bit number takes at most 20 digits
pub few : (k n : ℕ) → n < 2 ^ 64 → IsDigitCount 10 1 n k → k ≤ 20
few k n h f =
    by_contra k 20
    (λ q. omega (arith, f.2 (omega arith), pow-le-pow_right {n = 10} (omega arith) {i = 20} {j = k - 1} (omega arith)))

-- so what `io::decimal` spells is the number in decimal
pub spelled : (k n : ℕ) (out : List ℕ) → n < 2 ^ 64 → IsDigitCount 10 1 n k → take k out ≡ last_digits 10 k n → take k out ≡ decimal n
unfolding decimal
spelled k n out h f e = e ∙ ap (λ (j : ℕ). last_digits 10 j n) (fewest k 20 n (omega (arith, few k n h f)) f)

length_digits : (k n : ℕ) → length (last_digits 10 k n) ≡ k
length_digits zero n = refl
length_digits (suc k) n = simp length-append (omega (arith, length_digits k (n / 10)))

pub length-decimal : (k n : ℕ) → n < 2 ^ 64 → IsDigitCount 10 1 n k → length (decimal n) ≡ k
unfolding decimal
length-decimal k n h f = length_digits (places_of 20 n) n ∙ sym (fewest k 20 n (omega (arith, few k n h f)) f)

-- a byte stored behind a run of them
pub store_last : (out r text : List ℕ) (at k b : ℕ) → r ≡ sets out at text → length text ≡ k → set r (at + k) b ≡ sets out at (text ++ (b ∷ []))
store_last out r text at k b e l = rw (sets_append, l, e)

-- what is stored from the start on is what a file leaves in a buffer
stored_first : (out text : List ℕ) → length text ≤ length out → sets out 0 text ≡ written text out
unfolding written
stored_first out text h = rw zero-add at (sets-eq text out 0 (omega arith))

-- ---- a line of numbers, stored one by one

behind-drop : (numbers : List ℕ) (i : ℕ) → behind (drop i numbers) ≡ cond (ltb i (length numbers)) 32 10
behind-drop [] i = rw (drop-nil, le-ltb i 0 (omega arith))
behind-drop (n ∷ rest) zero = rw (lt-ltb 0 (suc (length rest)) (omega arith))
behind-drop (n ∷ rest) (suc i) = behind-drop rest i ∙ same (ltb i (length rest)) refl
  where
    same : (t : Bool) → ltb i (length rest) ≡ t → ◌≡◌ {A = ℕ} (cond t 32 10) (cond (ltb (suc i) (suc (length rest))) 32 10)
    same true e = rw (lt-ltb (suc i) (suc (length rest)) (omega (arith, ltb-true i (length rest) e)))
    same false e = rw (le-ltb (suc i) (suc (length rest)) (omega (arith, ltb-false i (length rest) e)))

-- the number at the index i, with what stands behind it
abbrev pub word : List ℕ → ℕ → List ℕ
word numbers i = decimal (get_or numbers i 0) ++ (cond (ltb (i + 1) (length numbers)) 32 10 ∷ [])

line-drop : (numbers : List ℕ) (i : ℕ) → i < length numbers → line (drop i numbers) ≡ word numbers i ++ line (drop (i + 1) numbers)
unfolding line
line-drop numbers i h = rw (drop-cons numbers i 0 h, behind-drop numbers (suc i), add-one)

-- what is stored and where, with the numbers from the index i on still to come
pub record LineLeft (numbers out₀ out : List ℕ) (at i : ℕ) : Type 0 where
  pub inside : i ≤ length numbers
  pub room : length out ≡ length out₀
  pub few : at ≤ 21 * i
  pub place : at + length (line (drop i numbers)) ≡ length (line numbers)
  pub stored : sets out at (line (drop i numbers)) ≡ sets out₀ 0 (line numbers)

pub line_start : (numbers out : List ℕ) → LineLeft numbers out out 0 0
line_start numbers out = record { inside = omega arith; room = refl; few = omega arith; place = rw zero-add; stored = refl }

pub line_step : (numbers out₀ out out' : List ℕ) (at i next : ℕ) → i < length numbers → length out' ≡ length out → next ≤ at + 21
    → next ≡ at + length (word numbers i) → out' ≡ sets out at (word numbers i) → LineLeft numbers out₀ out at i → LineLeft numbers out₀ out' next (i + 1)
line_step numbers out₀ out out' at i next h l b p s k =
    let parts = line-drop numbers i h in
    let long = length-append (word numbers i) (line (drop (i + 1) numbers)) in
    record {
      inside = omega arith;
      room = omega (arith, k.room);
      few = omega (arith, k.few);
      place = omega (arith, k.place, ap length parts);
      stored = rw (p, s) (rw (parts, sets_append) at k.stored);
    }

pub line_end : (numbers out₀ out : List ℕ) (at i : ℕ) → length numbers ≤ i → 21 * length numbers ≤ length out₀ → LineLeft numbers out₀ out at i
    → (at ≡ length (line numbers)) × (out ≡ written (line numbers) out₀)
unfolding line
line_end numbers out₀ out at i h r k =
    let none : drop i numbers ≡ [] = drop_of_length-le numbers {i = i} h in
    let place : at ≡ length (line numbers) = sym (add-zero at) ∙ rw none at k.place in
    let stored : out ≡ sets out₀ 0 (line numbers) = rw none at k.stored in
    (place, stored ∙ stored_first out₀ (line numbers) (omega (arith, k.few, k.inside, place)))

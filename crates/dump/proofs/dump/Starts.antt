-- Bytes that begin with those of a file. Assumes nothing.
use mathlib.Core.Path.{◌≡◌, refl, sym, ap, ◌∙◌}
use mathlib.Core.Bool.{Bool, true, false}
use mathlib.Core.List.{List, ◌++◌}
use Prim.Native.Nat.{ℕ, ◌<◌, ◌≤◌}
use native.Mathlib.Omega.{arith}
use borrow.Author.Tests.{le-leb, lt-leb, leb-true, eq-eqb, eqb-true}
use lib.Dec.{leb, eqb}
use lib.ListN.{length, get_or, take, drop, length-append, take-append-drop, get_or-append}
use lib.Seq.{ext_get_or, get_or-take, length-take-le, take_at}
use Rattle.std.specs.Cmp.Lexicographic.{pointwise}
use Rattle.std.proofs.lemmas.Bool.Decides.{Decides-eqb, same_from_decides}
use Rattle.std.proofs.lemmas.Slice.Eq.{starts_is}
use Rattle.charger.proofs.Lists.{and_true}
use Rattle.plan.specs.Search.{every}
use Rattle.plan.proofs.SearchLaws.{every_at, every_of}
use Rattle.plan.proofs.bytes.Laws.{Begins}
use Rattle.files.specs.Book.{written}
use Rattle.dump.specs.Dump.{starts_with}

-- they are the file's bytes and what follows
pub starts : (file b : List ℕ) → starts_with file b ≡ true → Begins b file
unfolding starts_with Begins
starts file b e =
    let n = length file in
    let same : ℕ → Bool = λ k. eqb (get_or b k 0) (get_or file k 0) in
    let both = and_true (leb n (length b)) (every same 0 n) e in
    let long : length (take n b) ≡ n = length-take-le n b (leb-true n (length b) both.0) in
    let first : take n b ≡ file =
    ext_get_or 0 (take n b) file long (λ k h. get_or-take n b k 0 (omega arith) ∙ eqb-true _ _ (every_at same 0 n both.1 k (omega arith) (omega arith))) in
    (drop n b, sym (take-append-drop n b) ∙ ap (λ (l : List ℕ). l ++ drop n b) first)

-- and such bytes begin with the file
pub starts_with_lem : (file rest : List ℕ) → starts_with file (file ++ rest) ≡ true
unfolding starts_with
starts_with_lem file rest =
    rw (le-leb (length file) (length (file ++ rest)) (rw length-append (omega arith)))
    (every_of (λ (k : ℕ). eqb (get_or (file ++ rest) k 0) (get_or file k 0)) 0 (length file) (λ j a b. eq-eqb _ _ (get_or-append file rest 0 j (omega arith))))

-- shorter bytes do not
pub too_short : (file b : List ℕ) → length b < length file → starts_with file b ≡ false
unfolding starts_with
too_short file b h = rw (lt-leb (length file) (length b) h)

-- the test of the library's method is the same one
pub same_test : (file b : List ℕ) → pointwise eqb file (take (length file) b) ≡ starts_with file b
unfolding Begins
same_test file b =
    let P : Type 0 = (r : List ℕ) × (b ≡ file ++ r) in
    let theirs = starts_is Decides-eqb b file (pointwise eqb file (take (length file) b)) refl in
    same_from_decides {P = P} _ _ ((λ h. (drop (length file) b, theirs.0 h)), λ g. theirs.1 g.0 g.1) (starts file b, λ g. rw g.1 (starts_with_lem file g.0))

-- a file stored at the front of a buffer lies within it, and is what it begins with
pub within : (file old b : List ℕ) (n : ℕ) → b ≡ written file old → n ≡ length file → n ≤ length b
unfolding written
within file old b n e l = rw (e, length-append) (omega arith)

pub first : (file old b : List ℕ) (n : ℕ) → b ≡ written file old → n ≡ length file → take n b ≡ file
unfolding written
first file old b n e l = rw e (take_at file (drop (length file) old) n (sym l))

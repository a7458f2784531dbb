-- Laws of tests, of `count` and `All`, and what a search by `first` says of the list.
use mathlib.Core.Path.{◌≡◌, refl, sym, ap, ◌∙◌}
use mathlib.Core.Bool.{Bool, true, false, cond, ◌&&◌, false≢true}
use mathlib.Core.List.{List, [], ◌∷◌, ◌++◌, map}
use Prim.Native.Nat.{ℕ, zero, suc, ◌+◌, ◌≤◌, ◌<◌}
use native.Mathlib.Nat.{not-suc-le-zero, le_of_suc-le-suc}
use native.Mathlib.Omega.{arith}
use borrow.Author.Tests.{ltb-true, ltb-false, eq-eqb, ne_eqb, eqb-true, eqb-false}
use lib.Dec.{ltb, eqb}
use lib.ListN.{length, get_or}
use Rattle.std.specs.Prelude.{count_by}
use Rattle.std.proofs.lemmas.List.Sums.{sum_by-cons}
use Rattle.charger.specs.First.{Found, nobody, found, behind, found_or, first}
use Rattle.charger.specs.Lists.{tick, count, All, none, also}

-- what holds of both branches holds of the one taken
pub by_cond : {A : Type 0} (P : A → Type 0) (b : Bool) {x y : A} → P x → P y → P (cond b x y)
by_cond P true h k = h
by_cond P false h k = k

-- the same, with the test's outcome known in each
pub by_test : {A : Type 0} (P : A → Type 0) (b : Bool) {x y : A} → (b ≡ true → P x) → (b ≡ false → P y) → P (cond b x y)
by_test P true h k = h refl
by_test P false h k = k refl

pub and_true : (a b : Bool) → (a && b) ≡ true → (a ≡ true) × (b ≡ true)
and_true true b e = (refl, e)
and_true false b e = absurd (false≢true e)

pub and_both : (a : Bool) {b c : Bool} → (b ≡ true → c ≡ true) → (a && b) ≡ true → (a && c) ≡ true
and_both true f h = f h
and_both false f h = h

pub eqb_comm : (a b : ℕ) → eqb a b ≡ eqb b a
eqb_comm a b = go (eqb b a) refl
  where
    go : (t : Bool) → eqb b a ≡ t → eqb a b ≡ t
    go true e = eq-eqb a b (sym (eqb-true b a e))
    go false e = ne_eqb a b (λ q. eqb-false b a e (sym q))

pub tick_le : (b : Bool) → tick b ≤ 1
tick_le true = omega arith
tick_le false = omega arith

pub count_map : {A B : Type 0} (f : A → B) (test : B → Bool) (l : List A) → count test (map f l) ≡ count (λ (x : A). test (f x)) l
count_map f test [] = refl
count_map f test (x ∷ l) = rw (count_map f test l)

-- the library's count of those that pass is the same
pub count_by_is : {A : Type 0} (test : A → Bool) (l : List A) → count_by test l ≡ count test l
count_by_is test [] = refl
count_by_is test (x ∷ l) = sum_by-cons (λ y. cond (test y) 1 0) x l ∙ rw (count_by_is test l) (one (test x))
  where
    one : (b : Bool) → cond b 1 0 + count test l ≡ tick b + count test l
    one true = refl
    one false = refl

module _ {A : Type 0} where
  pub count-append : (test : A → Bool) (s t : List A) → count test (s ++ t) ≡ count test s + count test t
  count-append test [] t = omega arith
  count-append test (x ∷ s) t = omega (arith, count-append test s t)

  pub count_same : (f g : A → Bool) (l : List A) → ((x : A) → f x ≡ g x) → count f l ≡ count g l
  count_same f g [] h = refl
  count_same f g (x ∷ l) h = rw (h x, count_same f g l h)

  pub count_le : (f g : A → Bool) (l : List A) → ((x : A) → f x ≡ true → g x ≡ true) → count f l ≤ count g l
  count_le f g [] h = omega arith
  count_le f g (x ∷ l) h = go (f x) refl (count_le f g l h)
    where
      go : (t : Bool) → f x ≡ t → count f l ≤ count g l → tick t + count f l ≤ tick (g x) + count g l
      go true e m = rw (h x e) (omega arith)
      go false e m = omega arith

  -- tests that agree on the members
  pub count_alike : {f g : A → Bool} {l : List A} → All (λ x. f x ≡ g x) l → count f l ≡ count g l
  count_alike none = refl
  count_alike (also h hs) = rw (h, count_alike hs)

  pub count_none : {test : A → Bool} {l : List A} → All (λ x. test x ≡ false) l → count test l ≡ 0
  count_none none = refl
  count_none (also h hs) = rw h (omega (arith, count_none hs))

  pub none_counted : (test : A → Bool) (l : List A) → count test l ≡ 0 → All (λ x. test x ≡ false) l
  none_counted test [] h = none
  none_counted test (x ∷ l) h = also (go (test x) (omega arith)) (none_counted test l (omega arith))
    where
      go : (b : Bool) → tick b ≡ 0 → b ≡ false
      go true h = absurd (omega arith)
      go false h = refl

  -- members of which none has a number from n on
  pub all_placed : (number : A → ℕ) (n : ℕ) (l : List A) → ((k : ℕ) → n ≤ k → count (λ (x : A). eqb k (number x)) l ≡ 0) → All (λ x. number x < n) l
  all_placed number n [] h = none
  all_placed number n (x ∷ l) h = also (here (ltb (number x) n) refl) (all_placed number n l (λ k m. omega (arith, h k m)))
    where
      here : (t : Bool) → ltb (number x) n ≡ t → number x < n
      here true e = ltb-true (number x) n e
      here false e = absurd (omega (arith, ap tick (eq-eqb (number x) (number x) refl), h (number x) (ltb-false (number x) n e)))

  pub count-every : (l : List A) → count (λ (x : A). true) l ≡ length l
  count-every [] = refl
  count-every (x ∷ l) = omega (arith, count-every l)

  pub all_append : {P : A → Type 0} {s t : List A} → All P s → All P t → All P (s ++ t)
  all_append none k = k
  all_append (also h hs) k = also h (all_append hs k)

  pub all_left : {P : A → Type 0} (s t : List A) → All P (s ++ t) → All P s
  all_left [] t h = none
  all_left (x ∷ s) t (also h hs) = also h (all_left s t hs)

  pub all_right : {P : A → Type 0} (s : List A) {t : List A} → All P (s ++ t) → All P t
  all_right [] h = h
  all_right (x ∷ s) (also h hs) = all_right s hs

  pub all_map : {P Q : A → Type 0} → ((x : A) → P x → Q x) → {s : List A} → All P s → All Q s
  all_map f none = none
  all_map f (also {x = x} h hs) = also (f x h) (all_map f hs)

  pub all_both : {P Q R : A → Type 0} → ((x : A) → P x → Q x → R x) → {s : List A} → All P s → All Q s → All R s
  all_both f none none = none
  all_both f (also {x = x} h hs) (also k ks) = also (f x h k) (all_both f hs ks)

  pub all_head : {P : A → Type 0} {x : A} {s : List A} → All P (x ∷ s) → P x
  all_head (also h hs) = h

  pub all_tail : {P : A → Type 0} {x : A} {s : List A} → All P (x ∷ s) → All P s
  all_tail (also h hs) = hs

pub all_at : {A : Type 0} {P : A → Type 0} (s : List A) (i : ℕ) (d : A) → i < length s → All P s → P (get_or s i d)
all_at [] i d l h = absurd (not-suc-le-zero l)
all_at (x ∷ s) zero d l h = all_head h
all_at (x ∷ s) (suc i) d l h = all_at s i d (le_of_suc-le-suc l) (all_tail h)

-- the same where the default has it too
pub all_default : {A : Type 0} {P : A → Type 0} (s : List A) (i : ℕ) (d : A) → P d → All P s → P (get_or s i d)
all_default [] i d p h = p
all_default (x ∷ s) zero d p h = all_head h
all_default (x ∷ s) (suc i) d p h = all_default s i d p (all_tail h)

-- what a search of `xs` came to: nobody passes, or `v` does and nobody before it, and the rest is what stands around it
pub data Searched (test : ℕ → Bool) (xs : List ℕ) : Found → Type 0 where
  missed : All (λ x. test x ≡ false) xs → Searched test xs nobody
  met : (s : List ℕ) (v : ℕ) (t : List ℕ) → All (λ x. test x ≡ false) s → test v ≡ true → xs ≡ s ++ (v ∷ t) → Searched test xs (found v (s ++ t))

module _ (test : ℕ → Bool) where
  searched_behind : (x : ℕ) (xs : List ℕ) → test x ≡ false → {f : Found} → Searched test xs f → Searched test (x ∷ xs) (behind x f)
  searched_behind x xs e (missed h) = missed (also e h)
  searched_behind x xs e (met s v t h p q) = met (x ∷ s) v t (also e h) p (ap (λ (l : List ℕ). x ∷ l) q)

  searched_or_else : (b : Bool) (x : ℕ) (xs : List ℕ) → test x ≡ b → {f : Found} → Searched test xs f → Searched test (x ∷ xs) (found_or b x xs f)
  searched_or_else true x xs e h = met [] x xs none e refl
  searched_or_else false x xs e h = searched_behind x xs e h

  pub searched : (xs : List ℕ) → Searched test xs (first test xs)
  searched [] = missed none
  searched (x ∷ xs) = searched_or_else (test x) x xs refl (searched xs)

pub all_around : {A : Type 0} {P : A → Type 0} (s : List A) (v : A) (t : List A) → All P (s ++ (v ∷ t)) → All P (s ++ t)
all_around s v t h = all_append (all_left s (v ∷ t) h) (all_tail (all_right s h))

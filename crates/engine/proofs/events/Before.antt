-- The laws of the order of events. They alone look into `before`.
use Rattle.std.proofs.Common.{◌≡◌, ℕ, ◌+◌, ◌<◌, ◌≤◌, Bool, true, false, eqb, ltb, sym, refl, ◌∙◌, ⊎_elim, true≢false, eq-or-lt_of_le, arith, ltb-false, ltb-true, le-ltb, lt-ltb, eq-eqb, ne_eqb}
use borrow.Author.Tests.{eqb-false}
use Rattle.engine.specs.declared.events.Event.{Event}
use Rattle.engine.specs.Events.{arrival, renege, rank, place_of, smaller, before}

-- ---- two numbers, and what decides where they are equal

module _ (a b : ℕ) (next : Bool) where
  less : a < b → smaller a b next ≡ true
  less h = rw (lt-ltb a b h)

  same : a ≡ b → smaller a b next ≡ next
  same e = rw (le-ltb a b (omega arith), eq-eqb a b e)

  more : b < a → smaller a b next ≡ false
  more h = rw (le-ltb a b (omega arith), ne_eqb a b (omega arith))

  -- the three cases
  by_size : {P : Type 0} → (a < b → P) → (a ≡ b → P) → (b < a → P) → P
  by_size {P} l s m = go (ltb a b) refl
    where
      go : (t : Bool) → ltb a b ≡ t → P
      go true h = l (ltb-true a b h)
      go false h = ⊎_elim (λ (e : b ≡ a). s (sym e)) m (eq-or-lt_of_le (ltb-false a b h))

no : {P : Type 0} → true ≡ false → P
no h = absurd (true≢false h)

asym : (a b : ℕ) {n m : Bool} → (n ≡ true → m ≡ false) → smaller a b n ≡ true → smaller b a m ≡ false
asym a b {n} {m} f h = by_size a b n (λ l. more b a m l) (λ e. same b a m (sym e) ∙ f (sym (same a b n e) ∙ h)) (λ g. no (sym h ∙ more a b n g))

trans : (a b c : ℕ) {n m k : Bool} → (n ≡ true → m ≡ true → k ≡ true) → smaller a b n ≡ true → smaller b c m ≡ true → smaller a c k ≡ true
trans a b c {n} {m} {k} f h i =
    by_size a b n
    (λ l. by_size b c m (λ r. less a c k (omega arith)) (λ e. less a c k (omega arith)) (λ g. no (sym i ∙ more b c m g)))
    (λ d. by_size b c m (λ r. less a c k (omega arith)) (λ e. same a c k (omega arith) ∙ f (sym (same a b n d) ∙ h) (sym (same b c m e) ∙ i)) (λ g. no (sym i ∙ more b c m g)))
    (λ g. no (sym h ∙ more a b n g))

other : (a b : ℕ) {n m : Bool} → (a ≡ b → n ≡ false → m ≡ true) → smaller a b n ≡ false → smaller b a m ≡ true
other a b {n} {m} f h = by_size a b n (λ l. no (sym (less a b n l) ∙ h)) (λ e. same b a m (sym e) ∙ f e (sym (same a b n e) ∙ h)) (λ g. less b a m g)

-- ---- it is strict and transitive, and total on events that differ in kind or place

-- of two kinds, or at two places
abbrev pub Apart : Event → Event → Type 0
Apart a b = rank a.kind ≡ rank b.kind → eqb (place_of a) (place_of b) ≡ false

pub before_asym : (a b : Event) → before a b ≡ true → before b a ≡ false
unfolding before
before_asym a b h =
    asym a.time b.time
    (asym (rank a.kind) (rank b.kind) (λ l. le-ltb (place_of b) (place_of a) (omega (arith, ltb-true (place_of a) (place_of b) l))))
    h

pub before_trans : (a b c : Event) → before a b ≡ true → before b c ≡ true → before a c ≡ true
unfolding before
before_trans a b c h k =
    trans a.time b.time c.time
    (trans (rank a.kind) (rank b.kind) (rank c.kind)
    (λ l m. lt-ltb (place_of a) (place_of c) (omega (arith, ltb-true (place_of a) (place_of b) l, ltb-true (place_of b) (place_of c) m))))
    h k

pub before_other : (a b : Event) → Apart a b → before a b ≡ false → before b a ≡ true
unfolding before
before_other a b d h =
    other a.time b.time
    (λ t. other (rank a.kind) (rank b.kind)
    (λ r l. lt-ltb (place_of b) (place_of a)
    (⊎_elim (λ (e : place_of b ≡ place_of a). absurd (eqb-false (place_of a) (place_of b) (d r) (sym e))) (λ m. m) (eq-or-lt_of_le (ltb-false (place_of a) (place_of b) l)))))
    h

-- ---- what it says of times

-- a vehicle's arrival is before its renege
pub arrival-first : (t w v : ℕ) → before (arrival t v) (renege (t + w) v) ≡ true
unfolding before
arrival-first t w v =
    by_size t (t + w) true (λ l. less t (t + w) _ l) (λ e. same t (t + w) _ e) (λ g. absurd (omega arith))

-- what pops before an event is not later
pub not_later : (a b : Event) → before a b ≡ true → a.time ≤ b.time
unfolding before
not_later a b h =
    by_size a.time b.time true (λ l. omega arith) (λ e. omega arith) (λ g. no (sym h ∙ more a.time b.time _ g))

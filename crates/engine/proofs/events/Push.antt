-- A push by index: `e` goes in where the first stands that it pops before, whether the events are kept in the order in which they pop or the other way round.
use Rattle.std.proofs.Common.{◌≡◌, ℕ, suc, ◌+◌, ◌-◌, ◌≤◌, Bool, true, false, cond, not, ltb, eqb, List, [], ◌∷◌, ◌++◌, length, take, drop, reverse, sym, refl, ap, ◌∙◌, arith, append_assoc, length-drop, ltb-false, eq-eqb, eqb-true}
use Rattle.std.specs.Prelude.{Option, Some, None, position}
use Rattle.std.specs.List.{position_or_len, insert}
use Rattle.std.specs.Option.{unwrap_or}
use Rattle.std.proofs.lemmas.List.{reverse-append, take-append-drop, length-reverse}
use Rattle.std.proofs.lemmas.List.Folds.{position_or_len_push}
use Rattle.std.proofs.Math.Seq.{take-append_seam, drop-append_seam}
use Rattle.std.proofs.Math.Nat.{add_comm}
use native.Mathlib.Numerals.{add-one}
use Rattle.charger.specs.Lists.{All, also}
use Rattle.charger.proofs.Lists.{by_cond, by_test}
use Rattle.engine.specs.declared.events.Event.{Event}
use Rattle.engine.specs.Events.{before, push, Ordered, empty, least}
use Rattle.engine.proofs.events.Order.{before_all}

-- ---- the first that passes

module _ {A : Type 0} (test : A → Bool) where
  pub stop-le : (l : List A) → position_or_len test l ≤ length l
  stop-le [] = omega arith
  stop-le (x ∷ l) = by_cond (λ (n : ℕ). n ≤ suc (length l)) (not (test x)) (omega (arith, stop-le l)) (omega arith)

  -- the place that `position` names, or the length
  pub or_length : (l : List A) → unwrap_or (position test l) (length l) ≡ position_or_len test l
  or_length l = go (ltb (position_or_len test l) (length l)) refl
    where
      go : (b : Bool) → ltb (position_or_len test l) (length l) ≡ b → unwrap_or (cond b (Some (position_or_len test l)) None) (length l) ≡ position_or_len test l
      go true e = refl
      go false e = omega (arith, ltb-false (position_or_len test l) (length l) e, stop-le l)

pub push_at : (e : Event) (l : List Event) → push e l ≡ insert l (position_or_len (before e) l) e
push_at e [] = refl
push_at e (x ∷ xs) = go (before e x) (push_at e xs)
  where
    k : ℕ
    k = position_or_len (before e) xs

    go : (b : Bool) → push e xs ≡ insert xs k e → cond b (e ∷ (x ∷ xs)) (x ∷ push e xs) ≡ insert (x ∷ xs) (cond (not b) (1 + k) 0) e
    go true h = refl
    go false h = rw (add_comm 1 k, add-one k) (ap (λ (l : List Event). x ∷ l) h)

-- ---- kept the other way round

module _ {A : Type 0} where
  insert_seam : (a b : List A) (e : A) (k : ℕ) → length a ≡ k → insert (a ++ b) k e ≡ a ++ (e ∷ b)
  insert_seam a b e k h = rw (← h, take-append_seam a b, drop-append_seam a b)

  reverse_insert : (l : List A) (e : A) (k : ℕ) → k ≤ length l → reverse (insert l (length l - k) e) ≡ insert (reverse l) k e
  reverse_insert l e k h =
      let i : ℕ = length l - k in
      let a : List A = reverse (drop i l) in
      let b : List A = reverse (take i l) in
      let long : length a ≡ k = omega (arith, length-reverse (drop i l), length-drop i l) in
      let whole : reverse l ≡ a ++ b = ap reverse (sym (take-append-drop i l)) ∙ reverse-append (take i l) (drop i l) in
      reverse-append (take i l) (e ∷ drop i l)
      ∙ ap (λ (m : List A). m ++ b) (reverse-append (e ∷ []) (drop i l))
      ∙ append_assoc a (e ∷ []) b
      ∙ sym (ap (λ (m : List A). insert m k e) whole ∙ insert_seam a b e k long)

pub push_kept : (e : Event) (l new : List Event) (found : Option ℕ) (k : ℕ) → found ≡ position (before e) (reverse l) → k ≡ unwrap_or found (length l)
    → new ≡ insert l (length l - k) e → reverse new ≡ push e (reverse l)
push_kept e l new found k f h n =
    let at : k ≡ position_or_len (before e) (reverse l) =
    h ∙ ap (λ (o : Option ℕ). unwrap_or o (length l)) f ∙ ap (unwrap_or (position (before e) (reverse l))) (sym (length-reverse l)) ∙ or_length (before e) (reverse l) in
    let within : k ≤ length l = omega (arith, at, stop-le (before e) (reverse l), length-reverse l) in
    ap reverse n ∙ reverse_insert l e k within ∙ ap (λ (i : ℕ). insert (reverse l) i e) at ∙ sym (push_at e (reverse l))

-- ---- kept in order, and looked for from the back

abbrev after : Event → Event → Bool
after e x = not (before e x)

-- where it pops before the first it pops before all
at_front : (e x : Event) (xs : List Event) → before e x ≡ true → All (λ y. before x y ≡ true) xs → position_or_len (before e) xs ≡ 0
at_front e x [] h a = refl
at_front e x (y ∷ ys) h a = go (before_all e x h a)
  where
    go : All (λ z. before e z ≡ true) (y ∷ ys) → position_or_len (before e) (y ∷ ys) ≡ 0
    go (also p ps) = rw p

both_ends : (e : Event) {l : List Event} → Ordered l → position_or_len (before e) l + position_or_len (after e) (reverse l) ≡ length l
both_ends e empty = refl
both_ends e (least {e = x} {l = xs} a s) =
    ap (λ (m : List Event). position_or_len (before e) (x ∷ xs) + position_or_len (after e) m) (reverse-append (x ∷ []) xs)
    ∙ ap (λ (n : ℕ). position_or_len (before e) (x ∷ xs) + n) (position_or_len_push (after e) (reverse xs) x)
    ∙ go (before e x) refl (both_ends e s)
  where
    n : ℕ
    n = position_or_len (after e) (reverse xs)

    go : (b : Bool) → before e x ≡ b → position_or_len (before e) xs + n ≡ length xs
        → cond (not b) (1 + position_or_len (before e) xs) 0 + cond (eqb n (length (reverse xs))) (length (reverse xs) + cond (not b) 0 1) n ≡ suc (length xs)
    go true h i =
        let all : n ≡ length (reverse xs) = omega (arith, at_front e x xs h a, length-reverse xs) in
        rw (eq-eqb n (length (reverse xs)) all) (omega (arith, length-reverse xs))
    go false h i =
        by_test (λ (m : ℕ). 1 + position_or_len (before e) xs + m ≡ suc (length xs)) (eqb n (length (reverse xs)))
        (λ t. omega (arith, eqb-true n (length (reverse xs)) t, length-reverse xs))
        (λ t. omega arith)

pub push_back : (e : Event) (l new : List Event) (found : Option ℕ) (k : ℕ) → Ordered l → found ≡ position (λ x. not (before e x)) (reverse l) → k ≡ unwrap_or found (length l)
    → new ≡ insert l (length l - k) e → new ≡ push e l
push_back e l new found k o f h n =
    let at : k ≡ position_or_len (after e) (reverse l) =
    h ∙ ap (λ (m : Option ℕ). unwrap_or m (length l)) f ∙ ap (unwrap_or (position (after e) (reverse l))) (sym (length-reverse l)) ∙ or_length (after e) (reverse l) in
    let here : length l - k ≡ position_or_len (before e) l = omega (arith, at, both_ends e o) in
    n ∙ ap (λ (i : ℕ). insert l i e) here ∙ sym (push_at e l)

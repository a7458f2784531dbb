-- Two events that are pushed: in whichever order, and where they stand then.
use mathlib.Core.Path.{◌≡◌, refl, sym, ap, ◌∙◌}
use mathlib.Core.Bool.{Bool, true, false, cond, true≢false}
use mathlib.Core.List.{List, [], ◌∷◌, ◌++◌, map, map-append}
use Prim.Native.Nat.{◌<◌}
use native.Mathlib.Omega.{arith}
use Rattle.charger.specs.Lists.{All, none, also}
use Rattle.charger.proofs.Lists.{all_map}
use Rattle.engine.specs.declared.events.Event.{Event}
use Rattle.engine.specs.Events.{before, push}
use Rattle.engine.proofs.events.Before.{Apart, before_asym, before_trans, before_other, not_later}
use Rattle.late_booking.specs.Stands.{PutIn}

-- ---- in whichever order

swap_before : (a b : Event) → before a b ≡ true → (l : List Event) → push a (push b l) ≡ push b (push a l)
swap_before a b h [] = rw (h, before_asym a b h)
swap_before a b h (x ∷ xs) = go (before a x) refl (before b x) refl (swap_before a b h xs)
  where
    go : (s : Bool) → before a x ≡ s → (t : Bool) → before b x ≡ t → push a (push b xs) ≡ push b (push a xs)
        → push a (cond (before b x) (b ∷ (x ∷ xs)) (x ∷ push b xs)) ≡ push b (cond (before a x) (a ∷ (x ∷ xs)) (x ∷ push a xs))
    go true e true f k = rw (e, f, h, before_asym a b h)
    go true e false f k = rw (e, f, e, before_asym a b h)
    go false e true f k = absurd (true≢false (sym (before_trans a b x h f) ∙ e))
    go false e false f k = rw (e, f, e) (ap (λ (l : List Event). x ∷ l) k)

-- of two events that are apart it does not matter which is pushed first
pub push_swap : (a b : Event) (l : List Event) → Apart a b → push a (push b l) ≡ push b (push a l)
push_swap a b l d = go (before a b) refl
  where
    go : (t : Bool) → before a b ≡ t → push a (push b l) ≡ push b (push a l)
    go true h = swap_before a b h l
    go false h = sym (swap_before b a (before_other a b d h) l)

-- ---- where they stand

-- an event goes behind those that it does not pop before
push_past : (e : Event) (xs ys : List Event) → All (λ x. before e x ≡ false) xs → push e (xs ++ ys) ≡ xs ++ push e ys
push_past e [] ys none = refl
push_past e (x ∷ xs) ys (also h hs) = rw h (ap (λ (l : List Event). x ∷ l) (push_past e xs ys hs))

-- so a later one goes behind an earlier one
pub push_later : (e x : Event) (es : List Event) → e.time < x.time → push x (e ∷ es) ≡ e ∷ push x es
push_later e x es h = rw (behind (before x e) refl)
  where
    behind : (t : Bool) → before x e ≡ t → before x e ≡ false
    behind true g = absurd (omega (arith, not_later x e g))
    behind false g = g

record Pushed (e : Event) (l : List Event) : Type 0 where
  first : List Event
  last : List Event
  was : l ≡ first ++ last
  now : push e l ≡ first ++ (e ∷ last)
  passed : All (λ x. before e x ≡ false) first

pushed : (e : Event) (l : List Event) → Pushed e l
pushed e [] = record { first = []; last = []; was = refl; now = refl; passed = none }
pushed e (x ∷ xs) = go (before e x) refl (pushed e xs)
  where
    go : (t : Bool) → before e x ≡ t → Pushed e xs → Pushed e (x ∷ xs)
    go true h p = record { first = []; last = x ∷ xs; was = refl; now = rw h; passed = none }
    go false h p =
        record {
          first = x ∷ p.first;
          last = p.last;
          was = ap (λ (l : List Event). x ∷ l) p.was;
          now = rw h (ap (λ (l : List Event). x ∷ l) p.now);
          passed = also h p.passed;
        }

-- what does not pop after a does not pop after what pops after a
not_before : (a r x : Event) → before a r ≡ true → before a x ≡ false → before r x ≡ false
not_before a r x h k = go (before r x) refl
  where
    go : (t : Bool) → before r x ≡ t → before r x ≡ false
    go true e = absurd (true≢false (sym (before_trans a r x h e) ∙ k))
    go false e = e

-- an event and one that pops after it stand among the others in this order
pub put_in : (a r : Event) (l : List Event) → before a r ≡ true → PutIn a r l (push r (push a l))
put_in a r l h =
    let p = pushed a l in
    let q = pushed r p.last in
    let past = push_past r p.first (a ∷ p.last) (all_map (λ x k. not_before a r x h k) p.passed) in
    let next : push r (a ∷ p.last) ≡ a ∷ push r p.last = rw (before_asym a r h) in
    record {
      first = p.first;
      between = q.first;
      last = q.last;
      was = p.was ∙ ap (λ (l : List Event). p.first ++ l) q.was;
      now = ap (push r) p.now ∙ past ∙ ap (λ (l : List Event). p.first ++ l) (next ∙ ap (λ (l : List Event). a ∷ l) q.now);
    }

-- the same of what is said of each event
pub put_in_map : {A B : Type 0} (f : A → B) (a b : A) (old new : List A) → PutIn a b old new → PutIn (f a) (f b) (map f old) (map f new)
put_in_map f a b old new p =
    record {
      first = map f p.first;
      between = map f p.between;
      last = map f p.last;
      was = rw (p.was, map-append f, map-append f);
      now = rw (p.now, map-append f, map-append f);
    }

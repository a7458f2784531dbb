-- Events in order: a push keeps them so, and those of a plan stand so from the start.
use Rattle.std.proofs.Common.{◌≡◌, ℕ, suc, ◌+◌, ◌<◌, ◌≤◌, true, false, eqb, List, [], ◌∷◌, arith, ne_eqb}
use Rattle.charger.specs.declared.vehicle.Vehicle.{Vehicle}
use Rattle.charger.specs.Lists.{All, none, also}
use Rattle.charger.proofs.Lists.{all_map, by_cond, by_test}
use Rattle.engine.specs.declared.events.Event.{Event}
use Rattle.engine.specs.declared.events.EventType.{EventType}
use Rattle.engine.specs.declared.events.EventType.TheVariants.{Arrival, Renege, Unplug}
use Rattle.engine.specs.Events.{arrival, renege, rank, place_by, place_of, before, push, Ordered, empty, least, generate}
use Rattle.engine.proofs.events.Before.{Apart, before_trans, before_other}

pub all_push : {P : Event → Type 0} (e : Event) {l : List Event} → P e → All P l → All P (push e l)
all_push e h none = also h none
all_push {P} e h (also {x = x} {xs = xs} k ks) = by_cond (All P) (before e x) (also h (also k ks)) (also k (all_push e h ks))

-- what is before x is before all that stand behind x
pub before_all : (e x : Event) {l : List Event} → before e x ≡ true → All (λ y. before x y ≡ true) l → All (λ y. before e y ≡ true) l
before_all e x h k = all_map (λ y b. before_trans e x y h b) k

-- an event that is apart from all goes in
pub ordered_push : (e : Event) {l : List Event} → All (Apart e) l → Ordered l → Ordered (push e l)
ordered_push e none empty = least none empty
ordered_push e (also {x = x} a others) (least h s) =
    by_test Ordered (before e x)
    (λ b. least (also b (before_all e x b h)) (least h s))
    (λ b. least (all_push e (before_other e x a b) h) (ordered_push e others s))

pub ordered_tail : {e : Event} {l : List Event} → Ordered (e ∷ l) → Ordered l
ordered_tail (least h s) = s

-- ---- the events of the vehicles below v

abbrev pub Upto : ℕ → List Event → Type 0
Upto v l = Ordered l × All (λ e. e.vehicle < v) l

-- an event that goes by its vehicle's place, v, is apart from them
vehicle_apart : (a e : Event) → 1 ≤ rank a.kind → e.vehicle < place_of a → Apart a e
vehicle_apart a e r h = go e.kind
  where
    go : (k : EventType) → rank a.kind ≡ rank k → eqb (place_of a) (place_by k e.vehicle e.charger) ≡ false
    go Unplug s = absurd (omega arith)
    go Arrival s = ne_eqb (place_of a) e.vehicle (omega arith)
    go Renege s = ne_eqb (place_of a) e.vehicle (omega arith)

module _ (v t u : ℕ) {l : List Event} (h : Upto v l) where
  pub upto_arrival : Ordered (push (arrival t v) l)
  upto_arrival = ordered_push _ (all_map (λ e k. vehicle_apart (arrival t v) e (omega arith) k) h.1) h.0

  -- and both of its events
  pub upto_next : Upto (suc v) (push (renege u v) (push (arrival t v) l))
  upto_next = (
    ordered_push _ (all_push _ (λ r. absurd (omega arith)) (all_map (λ e k. vehicle_apart (renege u v) e (omega arith) k) h.1)) upto_arrival,
    all_push _ (omega arith) (all_push _ (omega arith) (all_map (λ e k. omega arith) h.1)),
  )

pub ordered_generate : (v : ℕ) (xs : List Vehicle) {l : List Event} → Upto v l → Ordered (generate v xs l)
ordered_generate v [] h = h.0
ordered_generate v (x ∷ xs) h = ordered_generate (suc v) xs (upto_next v x.arrival (x.arrival + x.wait) h)

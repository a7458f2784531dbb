-- In a run by events the pending events stand in order: no two are equal in time, kind and place, and what pops is the least.
use Rattle.std.proofs.Common.{◌≡◌, ℕ, ◌+◌, ◌≤◌, Bool, true, false, ◌&&◌, eqb, List, [], ◌∷◌, refl, ap, ◌∙◌, arith, eq-eqb, eqb-true}
use Rattle.charger.specs.Lists.{tick, count, All, none}
use Rattle.charger.proofs.Lists.{all_map, none_counted}
use Rattle.engine.specs.declared.events.Event.{Event}
use Rattle.engine.specs.declared.events.EventType.{EventType}
use Rattle.engine.specs.declared.events.EventType.TheVariants.{Arrival, Renege, Unplug}
use Rattle.engine.specs.Plan.{Plan}
use Rattle.engine.specs.Events.{unplug, rank, place_by, push, Ordered, empty}
use Rattle.engine.specs.SiteState.{start_charging}
use Rattle.engine.specs.Discrete.{State, run}
use Rattle.engine.specs.Demand.{is_unplug, unplugs}
use Rattle.engine.proofs.events.Before.{Apart}
use Rattle.engine.proofs.events.Order.{ordered_push, ordered_tail, ordered_generate}
use Rattle.engine.proofs.site.Laws.{count-push}
use Rattle.engine.proofs.discrete.Stepped.{Stepped, stepped, ended, charges, balks, waits, frees, passes, reneges, misses}
use Rattle.engine.proofs.discrete.EventLaws.{every_run}
use Rattle.engine.proofs.discrete.Busy.{taken_at, taken_past, Flagged, flagged, available_flag, popped, no_unplug}

-- the unplug of a charger that has none pending is apart from the others
unplug_apart : (t v c : ℕ) (es : List Event) → count (unplugs c) es ≡ 0 → All (Apart (unplug t v c)) es
unplug_apart t v c es h = all_map (λ e k. go e e.kind k) (none_counted (unplugs c) es h)
  where
    go : (e : Event) (k : EventType) → (is_unplug k && eqb c e.charger) ≡ false → rank Unplug ≡ rank k → eqb c (place_by k e.vehicle e.charger) ≡ false
    go e Unplug h r = h
    go e Arrival h r = absurd (omega arith)
    go e Renege h r = absurd (omega arith)

-- in order, and at most one unplug at each charger
record InOrder (l : List Event) : Type 0 where
  ordered : Ordered l
  once : (c : ℕ) → count (unplugs c) l ≤ 1

one_more : (b : Bool) {n : ℕ} → n ≤ 1 → (b ≡ true → n ≡ 0) → tick b + n ≤ 1
one_more true h k = omega (arith, k refl)
one_more false h k = omega (arith, h)

module _ (p : Plan) (s : State) (h : InOrder s.site.pending) (e : Event) (es : List Event) (l : s.site.pending ≡ e ∷ es) where
  behind : InOrder es
  behind = record { ordered = ordered_tail (rw l at h.ordered); once = λ c. omega (arith, popped p c s e es e.kind l refl, h.once c) }

  -- the charger that an arrival takes has no unplug pending
  none_taken : (c : ℕ) → e.kind ≡ Arrival → tick (taken_at s.site.places c) ≡ 0 → Flagged s → count (unplugs c) es ≡ 0
  none_taken c k a f = omega (arith, popped p c s e es Arrival l k, f c (taken_past s.site.places c a), a)

  -- nor has the one whose unplug was popped
  none_passed : e.kind ≡ Unplug → count (unplugs e.charger) es ≡ 0
  none_passed k =
      omega (arith, popped p e.charger s e es Unplug l k, ap tick (eq-eqb e.charger e.charger refl), h.once e.charger)

  -- so its new unplug finds its place
  plugs_in : (t v d : ℕ) → count (unplugs d) es ≡ 0 → InOrder (push (unplug t v d) es)
  plugs_in t v d z =
      record {
        ordered = ordered_push _ (unplug_apart t v d es z) behind.ordered;
        once = λ c. rw (count-push (unplugs c) (unplug t v d) es) (one_more (eqb c d) (behind.once c) (λ b. ap (λ (n : ℕ). count (unplugs n) es) (eqb-true c d b) ∙ z));
      }

stays : (p : Plan) (s : State) {t : State} → Stepped p s t → Flagged s → InOrder s.site.pending → InOrder t.site.pending
unfolding start_charging
stays p s (ended l) f h = h
stays p s (charges e es c l k a) f h = plugs_in p s h e es l _ _ c (none_taken p s h e es l c k (available_flag p s.site e.vehicle c a) f)
stays p s (balks e es l k) f h = behind p s h e es l
stays p s (waits e es l k) f h = behind p s h e es l
stays p s (frees e es l k) f h = behind p s h e es l
stays p s (passes e es q v r l k x a) f h = plugs_in p s h e es l _ _ e.charger (none_passed p s h e es l k)
stays p s (reneges e es q v r l k x a) f h = behind p s h e es l
stays p s (misses e es l k a) f h = behind p s h e es l

in_order : (p : Plan) (n : ℕ) → InOrder (run p n).site.pending
in_order p n =
    every_run p (λ s. InOrder s.site.pending)
    (record { ordered = ordered_generate 0 p.vehicles (empty, none); once = λ c. omega (arith, no_unplug c 0 p.vehicles []) })
    (λ n k. stays p (run p n) (stepped p (run p n)) (flagged p n) k)
    n

pub ordered : (p : Plan) (n : ℕ) → Ordered (run p n).site.pending
ordered p n = (in_order p n).ordered

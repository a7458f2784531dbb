-- Nobody is queued once no event is left: each vehicle's renege stands behind its arrival.
use Rattle.std.proofs.Common.{◌≡◌, ℕ, suc, ◌+◌, ◌<◌, ◌≤◌, Bool, true, false, not, ◌&&◌, ◌||◌, eqb, leb, ◌⊎◌, List, [], ◌∷◌, length, sym, refl, ap, ◌∙◌, subst, inl, inr, ⊎_elim, eq-or-lt_of_le, arith, eq-eqb, ne_eqb, eqb-true, leb-false, leb-true}
use mathlib.Core.Bool.{and-false}
use Rattle.charger.specs.declared.vehicle.Vehicle.{Vehicle}
use Rattle.charger.specs.Lists.{tick, count, All, none, also}
use Rattle.charger.proofs.Lists.{count-append, count_none, all_map, all_both, by_test}
use Rattle.engine.specs.declared.events.Event.{Event}
use Rattle.engine.specs.declared.events.EventType.{EventType}
use Rattle.engine.specs.declared.events.EventType.TheVariants.{Arrival, Renege, Unplug}
use Rattle.engine.specs.Plan.{Plan}
use Rattle.engine.specs.Events.{arrival, renege, unplug, before, push, Ordered, empty, least, generate}
use Rattle.engine.specs.SiteState.{start_charging}
use Rattle.engine.specs.Discrete.{State, run}
use Rattle.engine.specs.Demand.{is_arrival, arrives}
use Rattle.engine.proofs.discrete.Stepped.{Stepped, stepped, ended, charges, balks, waits, frees, passes, reneges, misses}
use Rattle.engine.proofs.events.Before.{before_asym, arrival-first}
use Rattle.engine.proofs.events.Order.{all_push, before_all, Upto, upto_arrival, upto_next}
use Rattle.engine.proofs.site.Laws.{gone, spots_in}
use Rattle.engine.proofs.discrete.EventLaws.{one_spot, no_spot, every_run}

-- ---- whether v is queued after the events of a list, if none but its own arrival and renege counted

abbrev turn : ℕ → EventType → ℕ → Bool → Bool
turn v Arrival u w = eqb v u || w
turn v Renege u w = not (eqb v u) && w
turn v Unplug u w = w

abbrev pub remains : ℕ → Bool → List Event → Bool
remains v w [] = w
remains v w (e ∷ l) = remains v (turn v e.kind e.vehicle w) l

-- an event that is none of v's changes nothing, wherever it is pushed
push_quiet : (v : ℕ) (e : Event) → ((w : Bool) → turn v e.kind e.vehicle w ≡ w) → (w : Bool) (l : List Event) → remains v w (push e l) ≡ remains v w l
push_quiet v e q w [] = q w
push_quiet v e q w (x ∷ l) =
    by_test (λ (m : List Event). remains v w m ≡ remains v w (x ∷ l)) (before e x)
    (λ b. ap (λ (u : Bool). remains v u (x ∷ l)) (q w))
    (λ b. push_quiet v e q (turn v x.kind x.vehicle w) l)

quiet_other : (v u : ℕ) (k : EventType) → eqb v u ≡ false → (w : Bool) → turn v k u w ≡ w
quiet_other v u Arrival h w = rw h
quiet_other v u Renege h w = rw h
quiet_other v u Unplug h w = refl

contradict : {b c d : Bool} → b ≡ false → b ≡ true → c ≡ d
contradict {b} h k = let z : false ≡ true = sym h ∙ k in cc

not_arrival : (b a : Bool) → b ≡ true → (a ≡ true → b ≡ false) → a ≡ false
not_arrival b true h k = sym h ∙ k refl
not_arrival b false h k = refl

-- with no arrival of v, it is not queued
no_arrival_turn : (v u : ℕ) (k : EventType) → (is_arrival k && eqb v u) ≡ false → turn v k u false ≡ false
no_arrival_turn v u Arrival h = rw h
no_arrival_turn v u Renege h = and-false (not (eqb v u))
no_arrival_turn v u Unplug h = refl

no_arrival : (v : ℕ) {l : List Event} → All (λ e. arrives (eqb v) e ≡ false) l → remains v false l ≡ false
no_arrival v none = refl
no_arrival v (also {x = e} {xs = l} h hs) = ap (λ (u : Bool). remains v u l) (no_arrival_turn v e.vehicle e.kind h) ∙ no_arrival v hs

-- no renege is before its vehicle's arrival
behind-arrival : (t w v : ℕ) → before (renege (t + w) v) (arrival t v) ≡ false
behind-arrival t w v = before_asym (arrival t v) (renege (t + w) v) (arrival-first t w v)

-- the renege of v, pushed behind each of its arrivals, leaves it not queued
renege_last : (v t : ℕ) {l : List Event} → Ordered l → All (λ e. arrives (eqb v) e ≡ true → before (renege t v) e ≡ false) l
    → (w : Bool) → remains v w (push (renege t v) l) ≡ false
renege_last v t empty none w = rw (eq-eqb v v refl)
renege_last v t (least {e = x} {l = l} s ss) (also h hs) w =
    by_test (λ (m : List Event). remains v w m ≡ false) (before (renege t v) x)
    (λ b.
    ap (λ (u : Bool). remains v (not u && w) (x ∷ l)) (eq-eqb v v refl)
    ∙ no_arrival v
    (all_both (λ y c g. not_arrival (before (renege t v) y) _ c g) (also b (before_all (renege t v) x b s)) (also h hs)))
    (λ b. renege_last v t ss hs (turn v x.kind x.vehicle w))

-- ---- a count n of the queue against v's flag
or_more : (b w : Bool) {n : ℕ} → n ≤ tick w → n ≤ tick (b || w)
or_more true true h = h
or_more true false h = omega arith
or_more false w h = h

or_joined : (b w : Bool) {n : ℕ} → n ≤ tick w → n + tick b ≤ 1 → n + (tick b + 0) ≤ tick (b || w)
or_joined true w h k = omega arith
or_joined false w h k = omega arith

and_left : (b w : Bool) {n : ℕ} → n + tick b ≤ tick w → n ≤ tick (not b && w)
and_left true true h = omega arith
and_left true false h = omega arith
and_left false w h = omega arith

and_absent : (b w : Bool) {n : ℕ} → n ≤ tick w → (b ≡ true → n ≡ 0) → n ≤ tick (not b && w)
and_absent true w h k = omega (arith, k refl)
and_absent false w h k = h

nobody_left : (l : List ℕ) → ((v : ℕ) → count (eqb v) l ≡ 0) → l ≡ []
nobody_left [] h = refl
nobody_left (x ∷ l) h = absurd (omega (arith, h x, ap tick (eq-eqb x x refl)))

-- ---- at the start: v's arrival, and then its renege
module _ (v : ℕ) where
  -- once both are pushed, whatever comes behind
  settled_behind : (u : ℕ) (xs : List Vehicle) (l : List Event) → v < u → ((w : Bool) → remains v w l ≡ false) → remains v false (generate u xs l) ≡ false
  settled_behind u [] l h k = k false
  settled_behind u (x ∷ xs) l h k =
      settled_behind (suc u) xs _ (omega arith)
      (λ w.
      push_quiet v (renege (x.arrival + x.wait) u) (quiet_other v u Renege (ne_eqb v u (omega arith))) w (push (arrival x.arrival u) l)
      ∙ push_quiet v (arrival x.arrival u) (quiet_other v u Arrival (ne_eqb v u (omega arith))) w l
      ∙ k w)

  settled_generate : (u : ℕ) (xs : List Vehicle) {l : List Event} → u ≤ v → Upto u l → All (λ e. arrives (eqb v) e ≡ false) l → remains v false (generate u xs l) ≡ false
  settled_generate u [] h s k = no_arrival v k
  settled_generate u (x ∷ xs) {l} h s k =
      ⊎_elim
      (λ (e : u ≡ v). settled_behind (suc u) xs _ (omega arith)
      (subst (λ (u : ℕ). (w : Bool) → remains v w (push (renege (x.arrival + x.wait) u) (push (arrival x.arrival u) l)) ≡ false) (sym e)
      (renege_last v (x.arrival + x.wait) (upto_arrival v x.arrival 0 (subst (λ (u : ℕ). Upto u l) e s))
      (all_push (arrival x.arrival v) (λ a. behind-arrival x.arrival x.wait v) (all_map (λ y a b. contradict a b) k)))))
      (λ (m : u < v). settled_generate (suc u) xs m (upto_next u x.arrival (x.arrival + x.wait) s)
      (all_push _ refl (all_push _ (ne_eqb v u (omega arith)) k)))
      (eq-or-lt_of_le h)

  -- ---- along a run: v is queued at most once, and only while its renege is to come

  abbrev pub Settled : State → Type 0
  Settled s = (w : Bool) × ((count (eqb v) s.site.queue ≤ tick w) × (remains v w s.site.pending ≡ false))

  flagged : (s : State) (e : Event) (es : List Event) (k : EventType) (w : Bool) → s.site.pending ≡ e ∷ es → e.kind ≡ k
      → remains v w s.site.pending ≡ false → remains v (turn v k e.vehicle w) es ≡ false
  flagged s e es k w l h r = rw (l, h) at r

  -- an unplug that is pushed is none of v's
  unplugged : (t u c : ℕ) (w : Bool) (es : List Event) → remains v w es ≡ false → remains v w (push (unplug t u c) es) ≡ false
  unplugged t u c w es r = push_quiet v (unplug t u c) (λ x. refl) w es ∙ r

  settled_stepped : (p : Plan) (s : State) {t : State} → Stepped p s t → spots_in (eqb v) s.site ≤ 1 → Settled s → Settled t
  unfolding start_charging
  settled_stepped p s (ended l) o h = h
  settled_stepped p s (charges e es c l k a) o h =
      (eqb v e.vehicle || h.0, (or_more (eqb v e.vehicle) h.0 h.1.0, unplugged _ _ _ _ es (flagged s e es Arrival h.0 l k h.1.1)))
  settled_stepped p s (balks e es l k) o h =
      (eqb v e.vehicle || h.0, (or_more (eqb v e.vehicle) h.0 h.1.0, flagged s e es Arrival h.0 l k h.1.1))
  settled_stepped p s (waits e es l k) o h = (
    eqb v e.vehicle || h.0,
    (rw count-append (or_joined (eqb v e.vehicle) h.0 h.1.0 (omega (arith, o, gone (eqb v) s.site e es Arrival l k))), flagged s e es Arrival h.0 l k h.1.1),
  )
  settled_stepped p s (frees e es l k) o h = (h.0, (h.1.0, flagged s e es Unplug h.0 l k h.1.1))
  settled_stepped p s (passes e es q u r l k x a) o h = (
    h.0,
    (
      rw count-append (omega (arith, h.1.0, ap (count (eqb v)) x, count-append (eqb v) q (u ∷ r))),
      unplugged _ _ _ _ es (flagged s e es Unplug h.0 l k h.1.1),
    ),
  )
  settled_stepped p s (reneges e es q u r l k x a) o h =
      let same : tick (eqb v u) ≡ tick (eqb v e.vehicle) = ap (λ (n : ℕ). tick (eqb v n)) (sym (eqb-true e.vehicle u a)) in (
        not (eqb v e.vehicle) && h.0,
        (
          rw count-append (and_left (eqb v e.vehicle) h.0 (omega (arith, h.1.0, same, ap (count (eqb v)) x, count-append (eqb v) q (u ∷ r)))),
          flagged s e es Renege h.0 l k h.1.1,
        ),
      )
  settled_stepped p s (misses e es l k a) o h = (
    not (eqb v e.vehicle) && h.0,
    (
      and_absent (eqb v e.vehicle) h.0 h.1.0
          (λ b. count_none (subst (λ (u : ℕ). All (λ w. eqb u w ≡ false) s.site.queue) (sym (eqb-true v e.vehicle b)) a)),
      flagged s e es Renege h.0 l k h.1.1,
    ),
  )

  settled_run : (p : Plan) → v < length p.vehicles → (n : ℕ) → Settled (run p n)
  settled_run p h n =
      every_run p Settled (false, (omega arith, settled_generate 0 p.vehicles (omega arith) (empty, none) none))
      (λ n k. settled_stepped p (run p n) (stepped p (run p n)) (omega (arith, one_spot p n v h)) k)
      n

le_or_lt : (m n : ℕ) → (m ≤ n) ⊎ (n < m)
le_or_lt m n = go (leb m n) refl
  where
    go : (b : Bool) → leb m n ≡ b → (m ≤ n) ⊎ (n < m)
    go true e = inl (leb-true m n e)
    go false e = inr (leb-false m n e)

-- nobody is queued once no event is left
pub none_queued : (p : Plan) (n : ℕ) → (run p n).site.pending ≡ [] → (run p n).site.queue ≡ []
none_queued p n h = nobody_left (run p n).site.queue (λ v. out v)
  where
    out : (v : ℕ) → count (eqb v) (run p n).site.queue ≡ 0
    out v =
        ⊎_elim
        (λ (l : length p.vehicles ≤ v). omega (arith, no_spot p n v l))
        (λ (l : v < length p.vehicles).
        let s = settled_run v p l n in
        let gone : s.0 ≡ false = rw h at s.1.1 in
        omega (arith, s.1.0, ap tick gone))
        (le_or_lt (length p.vehicles) v)

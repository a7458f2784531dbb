-- Demand 3 for both engines: every vehicle is in one spot, the counts add up, no closed session changes, and no free charger
-- fits a queued vehicle. None of it looks into `before`.
use Rattle.std.proofs.Common.{◌≡◌, ℕ, zero, suc, ◌+◌, ◌<◌, ◌≤◌, Bool, true, false, ◌&&◌, eqb, ◌⊎◌, List, [], ◌∷◌, length, set, sym, refl, ap, ◌∙◌, inl, inr, ⊎_elim, le_of_suc-le-suc, not-suc-le-zero, add-zero, add-suc, suc-add, eq-or-lt_of_le, zero-add, arith, length-set, set-set, eq-eqb, ne_eqb}
use lib.ListN.{length-replicate}
use Rattle.charger.specs.Lists.{tick, count, All, none, also}
use Rattle.charger.proofs.Lists.{count-append, all_append, all_map, all_both, all_around, all_left, all_right, all_head, all_placed, by_cond}
use Rattle.charger.specs.declared.vehicle.Vehicle.{Vehicle}
use Rattle.engine.specs.declared.events.Event.{Event}
use Rattle.engine.specs.declared.events.EventType.{EventType}
use Rattle.engine.specs.declared.events.EventType.TheVariants.{Arrival, Renege, Unplug}
use Rattle.engine.specs.declared.session.Session.{Session}
use Rattle.engine.specs.declared.session.Outcome.{Outcome}
use Rattle.engine.specs.declared.session.Outcome.TheVariants.{Open, Charged, Reneged, Balked}
use Rattle.engine.specs.Plan.{Plan, fits}
use Rattle.engine.specs.Events.{arrival, renege, before, push, generate}
use Rattle.engine.specs.Demand.{is_arrival, arrives, has, outcome_number, of_outcome, anyone, spots, yet_to_arrive, sessions_with, Kept}
use Rattle.engine.specs.SiteState.{Engine, SiteState, below, initial, uncharged, start_charging, free_at}
use Rattle.engine.proofs.site.Kept.{kept_append, kept_refl, kept_trans}
use Rattle.engine.proofs.site.Moves.{Moved, charges, balks, waits, reneges, misses, unplugs, frees, passes, progresses, Moves, then}
use Rattle.engine.proofs.site.Moves as M

-- a pushed event is one more, wherever it goes
pub count-push : (test : Event → Bool) (e : Event) (l : List Event) → count test (push e l) ≡ tick (test e) + count test l
count-push test e [] = refl
count-push test e (x ∷ xs) =
    by_cond (λ (l : List Event). count test l ≡ tick (test e) + (tick (test x) + count test xs)) (before e x) refl (omega (arith, count-push test e xs))

-- ---- counting places and sessions

pub count_all : (l : List ℕ) → count anyone l ≡ length l
count_all [] = refl
count_all (x ∷ l) = omega (arith, count_all l)

count-below : (n : ℕ) → count anyone (below n) ≡ n
count-below zero = refl
count-below (suc n) = rw count-append (omega (arith, count-below n))

-- v is not among the places up to v, and once among more
none_below : (v n : ℕ) → n ≤ v → count (eqb v) (below n) ≡ 0
none_below v zero h = refl
none_below v (suc n) h = rw (count-append, ne_eqb v n (omega arith)) (omega (arith, none_below v n (omega arith)))

pub once_below : (v n : ℕ) → v < n → count (eqb v) (below n) ≡ 1
once_below v zero h = omega arith
once_below v (suc n) h =
    ⊎_elim
    (λ (e : v ≡ n). rw (count-append, eq-eqb v n e) (omega (arith, none_below v n (omega arith))))
    (λ (l : v < n). rw (count-append, ne_eqb v n (omega arith)) (omega (arith, once_below v n l)))
    (eq-or-lt_of_le (le_of_suc-le-suc h))

all_below : {P : ℕ → Type 0} (n : ℕ) → All P (below n) → (i : ℕ) → i < n → P i
all_below zero h i l = absurd (not-suc-le-zero l)
all_below (suc n) h i l =
    ⊎_elim
    (λ (e : i ≡ n). rw e (all_head (all_right (below n) h)))
    (λ (k : i < n). all_below n (all_left (below n) (n ∷ []) h) i k)
    (eq-or-lt_of_le (le_of_suc-le-suc l))

outcome_one : (o : Outcome) → tick (eqb (outcome_number o) 0) + tick (eqb (outcome_number o) 1) + tick (eqb (outcome_number o) 2) + tick (eqb (outcome_number o) 3) ≡ 1
outcome_one Open = refl
outcome_one Charged = refl
outcome_one Reneged = refl
outcome_one Balked = refl

pub outcomes : (l : List Session) → count (has anyone) l ≡ count (of_outcome 0) l + count (of_outcome 1) l + count (of_outcome 2) l + count (of_outcome 3) l
outcomes [] = refl
outcomes (x ∷ l) = omega (arith, outcomes l, outcome_one x.outcome)

-- at the start every vehicle is yet to arrive
count-generate : (test : ℕ → Bool) (v : ℕ) (xs : List Vehicle) (l : List Event)
    → count (arrives test) (generate v xs l) + count test (below v) ≡ count (arrives test) l + count test (below (v + length xs))
count-generate test v [] l = rw add-zero
count-generate test v (x ∷ xs) l =
    let a = arrival x.arrival v in
    let r = renege (x.arrival + x.wait) v in
    omega (
      arith,
      count-generate test (suc v) xs (push r (push a l)),
      count-push (arrives test) r (push a l),
      count-push (arrives test) a l,
      count-append test (below v) (v ∷ []),
      ap (λ (n : ℕ). count test (below n)) (suc-add v (length xs) ∙ sym (add-suc v (length xs))),
    )

-- the popped event is one arrival less, or none
pub gone : {A : Type 0} (test : ℕ → Bool) (f : SiteState A) (e : Event) (es : List Event) (k : EventType) → f.pending ≡ e ∷ es → e.kind ≡ k
    → count (arrives test) f.pending ≡ tick (is_arrival k && test e.vehicle) + count (arrives test) es
gone test f e es k l h = rw (l, h)

-- the spots of a site's vehicles
abbrev pub spots_in : {A : Type 0} → (ℕ → Bool) → SiteState A → ℕ
spots_in test f = spots test f.pending f.queue f.sessions

-- what an engine's own parts must meet
pub record Lawful {A : Type 0} (g : Engine A) : Type 0 where
  pub vehicle : (now v c : ℕ) → (g.session now v c).vehicle ≡ v
  pub charger : (now v c : ℕ) → (g.session now v c).charger ≡ c
  pub occupied : (now v c i : ℕ) → g.is_free (g.occupant now v c i) ≡ false
  pub arrivals : (test : ℕ → Bool) (now v c : ℕ) (es : List Event) → count (arrives test) (g.pend now v c es) ≡ count (arrives test) es

module _ (p : Plan) {A : Type 0} (g : Engine A) where
  -- ---- free chargers

  -- what is free once a charger is taken was free before
  still_free : (l : List A) (c i : ℕ) (x : A) → g.is_free x ≡ false → free_at p g (set l c x) i ≡ true → free_at p g l i ≡ true
  still_free [] c i x o h = h
  still_free (b ∷ l) zero zero x o h = cc
  still_free (b ∷ l) zero (suc i) x o h = h
  still_free (b ∷ l) (suc c) zero x o h = h
  still_free (b ∷ l) (suc c) (suc i) x o h = still_free l c i x o h

  -- what is free once a charger is freed was free before, or is that one
  freed_which : (l : List A) (c i : ℕ) (x : A) → free_at p g (set l c x) i ≡ true → (i ≡ c) ⊎ (free_at p g l i ≡ true)
  freed_which [] c i x h = inr h
  freed_which (b ∷ l) zero zero x h = inl refl
  freed_which (b ∷ l) zero (suc i) x h = inr h
  freed_which (b ∷ l) (suc c) zero x h = inr h
  freed_which (b ∷ l) (suc c) (suc i) x h = ⊎_elim (λ e. inl (ap suc e)) inr (freed_which l c i x h)

  no_fit : {b : Bool} → (true && b) ≡ false → b ≡ false
  no_fit h = h

  -- no free charger fits a queued vehicle
  abbrev pub Stuck : List A → ℕ → Type 0
  Stuck places v = (c : ℕ) → c < length p.chargers → free_at p g places c ≡ true → fits p v c ≡ false

  unfoldable pub Settled : SiteState A → Type 0
  Settled f = All (Stuck f.places) f.queue

  module _ (law : Lawful g) where
    -- ---- spots

    spots-moved : (test : ℕ → Bool) (f : SiteState A) {h : SiteState A} → Moved p g f h → spots_in test h ≡ spots_in test f
    unfolding start_charging uncharged
    spots-moved test f (charges e es c l k a) =
        simp (count-append, law.vehicle, law.arrivals) (omega (arith, gone test f e es Arrival l k))
    spots-moved test f (balks e es l k) = simp count-append (omega (arith, gone test f e es Arrival l k))
    spots-moved test f (waits e es l k a b) = simp count-append (omega (arith, gone test f e es Arrival l k))
    spots-moved test f (reneges e es q v r w l k x) =
        simp count-append (omega (arith, gone test f e es Renege l k, ap (count test) x, count-append test q (v ∷ r)))
    spots-moved test f (misses e es l k) = omega (arith, gone test f e es Renege l k)
    spots-moved test f (unplugs e es l k) = omega (arith, gone test f e es Unplug l k)
    spots-moved test f (frees c a) = refl
    spots-moved test f (passes now c q v r x a) =
        simp (count-append, law.vehicle, law.arrivals) (omega (arith, ap (count test) x, count-append test q (v ∷ r)))
    spots-moved test f (progresses w) = rw (w.pending, w.queue, w.vehicles)

    pub spots_moves : (test : ℕ → Bool) (f : SiteState A) {h : SiteState A} → Moves p g f h → spots_in test h ≡ spots_in test f
    spots_moves test f M.none = refl
    spots_moves test f (then {h = h} m s) = spots-moved test h s ∙ spots_moves test f m

    -- each vehicle is in exactly one spot, and the counts add up
    pub spots_run : (test : ℕ → Bool) {h : SiteState A} → Moves p g (initial p g) h → spots_in test h ≡ count test (below (length p.vehicles))
    spots_run test m =
        let at_zero = ap (λ (n : ℕ). count test (below n)) (zero-add (length p.vehicles)) in
        spots_moves test (initial p g) m ∙ omega (arith, count-generate test 0 p.vehicles [], at_zero)

    pub one_spot : {h : SiteState A} → Moves p g (initial p g) h → (v : ℕ) → v < length p.vehicles → spots_in (eqb v) h ≡ 1
    one_spot m v b = spots_run (eqb v) m ∙ once_below v (length p.vehicles) b

    -- nobody but the plan's vehicles is in a spot
    pub no_spot : {h : SiteState A} → Moves p g (initial p g) h → (v : ℕ) → length p.vehicles ≤ v → spots_in (eqb v) h ≡ 0
    no_spot m v b = spots_run (eqb v) m ∙ none_below v (length p.vehicles) b

    pub queue_in : {h : SiteState A} → Moves p g (initial p g) h → All (λ v. v < length p.vehicles) h.queue
    queue_in {h} m = all_placed (λ v. v) (length p.vehicles) h.queue (λ v b. omega (arith, no_spot m v b))

    pub sessions_in_lem : {h : SiteState A} → Moves p g (initial p g) h → All (λ x. x.vehicle < length p.vehicles) h.sessions
    sessions_in_lem {h} m = all_placed (λ x. x.vehicle) (length p.vehicles) h.sessions (λ v b. omega (arith, no_spot m v b))

    pub counts : {h : SiteState A} → Moves p g (initial p g) h
        → yet_to_arrive h.pending + length h.queue + (sessions_with 0 h.sessions + sessions_with 1 h.sessions + sessions_with 2 h.sessions + sessions_with 3 h.sessions) ≡ length p.vehicles
    counts {h} m = omega (arith, spots_run anyone m, count-below (length p.vehicles), count_all h.queue, outcomes h.sessions)

    settled_moved : (f : SiteState A) {h : SiteState A} → Moved p g f h → Settled f → Settled h
    unfolding start_charging Settled
    settled_moved f (charges e es c l k a) t = all_map (λ v s i b o. s i b (still_free f.places c i _ (law.occupied _ _ _ _) o)) t
    settled_moved f (balks e es l k) t = t
    settled_moved f (waits e es l k a b) t = all_append t (also (λ c d o. no_fit (rw o at (all_below (length p.chargers) a c d))) none)
    settled_moved f (reneges e es q v r w l k x) t = all_around q v r (rw x at t)
    settled_moved f (misses e es l k) t = t
    settled_moved f (unplugs e es l k) t = t
    settled_moved f (frees c a) t =
        all_both (λ v s n i b o. ⊎_elim (λ (x : i ≡ c). rw x n) (s i b) (freed_which f.places c i g.empty o)) t a
    settled_moved f (passes now c q v r x a) t =
        all_map (λ w s i b o. s i b (still_free f.places c i _ (law.occupied _ _ _ _) (rw set-set at o))) (all_around q v r (rw x at t))
    settled_moved f (progresses w) t = rw w.queue (all_map (λ v s i b o. s i b (sym (w.free i) ∙ o)) t)

    pub settled : {h : SiteState A} → Moves p g (initial p g) h → Settled h
    unfolding Settled
    settled M.none = none
    settled (then {h = h} m s) = settled_moved h s (settled m)

  -- ---- every charger keeps its place

  length_moved : (f : SiteState A) {h : SiteState A} → Moved p g f h → length h.places ≡ length f.places
  unfolding start_charging
  length_moved f (charges e es c l k a) = length-set f.places c _
  length_moved f (balks e es l k) = refl
  length_moved f (waits e es l k a b) = refl
  length_moved f (reneges e es q v r w l k x) = refl
  length_moved f (misses e es l k) = refl
  length_moved f (unplugs e es l k) = refl
  length_moved f (frees c a) = length-set f.places c _
  length_moved f (passes now c q v r x a) = length-set (set f.places c g.empty) c _ ∙ length-set f.places c _
  length_moved f (progresses w) = w.size

  pub length_places : {h : SiteState A} → Moves p g (initial p g) h → length h.places ≡ length p.chargers
  length_places M.none = length-replicate (length p.chargers) g.empty
  length_places (then {h = h} m s) = length_moved h s ∙ length_places m

  -- ---- closed sessions stay

  kept-moved : (f : SiteState A) {h : SiteState A} → Moved p g f h → Kept f.sessions h.sessions
  unfolding start_charging
  kept-moved f (charges e es c l k a) = kept_append f.sessions _
  kept-moved f (balks e es l k) = kept_append f.sessions _
  kept-moved f (waits e es l k a b) = kept_refl f.sessions
  kept-moved f (reneges e es q v r w l k x) = kept_append f.sessions _
  kept-moved f (misses e es l k) = kept_refl f.sessions
  kept-moved f (unplugs e es l k) = kept_refl f.sessions
  kept-moved f (frees c a) = kept_refl f.sessions
  kept-moved f (passes now c q v r x a) = kept_append f.sessions _
  kept-moved f (progresses w) = w.kept

  pub kept : (f : SiteState A) {h : SiteState A} → Moves p g f h → Kept f.sessions h.sessions
  kept f M.none = kept_refl f.sessions
  kept f (then {h = h} m s) = kept_trans (kept f m) (kept-moved h s)

-- Document 01's word "free", of a run by events: the unplug that is pending at a charger is that of the last car there.
use Rattle.std.proofs.Common.{◌≡◌, ℕ, ◌+◌, ◌<◌, Bool, true, false, cond, not, ◌&&◌, eqb, List, [], ◌∷◌, ◌++◌, length, sym, refl, ap, ◌∙◌, arith, eq-eqb, eqb-true}
use Rattle.charger.specs.Lists.{tick, count, All, none, also}
use Rattle.charger.proofs.Lists.{all_map, all_tail, by_test, count_none, none_counted}
use Rattle.engine.specs.declared.events.Event.{Event}
use Rattle.engine.specs.declared.events.EventType.TheVariants.{Arrival, Unplug}
use Rattle.engine.specs.declared.session.Session.{Session}
use Rattle.engine.specs.Plan.{Plan, stay}
use Rattle.engine.specs.Events.{unplug, push}
use Rattle.engine.specs.SiteState.{start_charging, uncharged, free_at}
use Rattle.engine.specs.Discrete.{State, events, charged_session, run}
use Rattle.engine.specs.Demand.{unplugs, has_charger, plugged_at, LastCar, nobody, last_car, last_at, unplug_of, free_by_events}
use Rattle.engine.proofs.discrete.Stepped.{Stepped, stepped, ended, charges, balks, waits, frees, passes, reneges, misses}
use Rattle.engine.proofs.site.Laws.{length_places}
use Rattle.engine.proofs.discrete.EventLaws.{run_moves, every_run}
use Rattle.engine.proofs.discrete.Busy.{taken_at, flagged, free_at_lem, available_flag, tick_le, popped, no_unplug}
use Rattle.engine.proofs.events.Order.{all_push}
use Rattle.power.proofs.charger_state.Vacant.{and_right}
use Rattle.engine.proofs.timestep.Held.{not_both}

-- ---- the last car at a charger

last_append : (c : ℕ) (w : LastCar) (xs : List Session) (x : Session) → last_at c w (xs ++ (x ∷ [])) ≡ cond (plugged_at c x) (last_car x) (last_at c w xs)
last_append c w [] x = refl
last_append c w (y ∷ xs) x = last_append c (cond (plugged_at c y) (last_car y) w) xs x

-- it was plugged in there
abbrev There : ℕ → LastCar → Type 0
There c nobody = Unit
There c (last_car x) = c ≡ x.charger

last_there : (c : ℕ) (w : LastCar) (xs : List Session) → There c w → There c (last_at c w xs)
last_there c w [] h = h
last_there c w (x ∷ xs) h =
    last_there c (cond (plugged_at c x) (last_car x) w) xs
    (by_test (There c) (plugged_at c x) (λ e. eqb-true c x.charger (and_right (has_charger x.outcome) (eqb c x.charger) e)) (λ e. h))

-- it is that vehicle
abbrev is_vehicle : LastCar → ℕ → Bool
is_vehicle nobody v = false
is_vehicle (last_car x) v = eqb x.vehicle v

-- every unplug that is pending at the charger is one of that car
abbrev Its : ℕ → LastCar → List Event → Type 0
Its c w es = All (λ e. unplugs c e ≡ true → is_vehicle w e.vehicle ≡ true) es

-- ---- counting

count_same : {A : Type 0} (test other : A → Bool) {xs : List A} → All (λ x. test x ≡ other x) xs → count test xs ≡ count other xs
count_same test other none = refl
count_same test other (also h hs) = rw (h, count_same test other hs)

none_pending : (c : ℕ) (w : LastCar) (es : List Event) → count (unplugs c) es ≡ 0 → Its c w es
none_pending c w es h = all_map (λ e n k. not_both (unplugs c e) k n) (none_counted (unplugs c) es h)

only : (a b : Bool) → (a ≡ true → b ≡ true) → (a && b) ≡ a
only true b h = h refl
only false b h = refl

-- so the unplugs that are pending there are those of that car
by_history : (c : ℕ) (w : LastCar) (es : List Event) → There c w → Its c w es → free_by_events es w ≡ eqb (count (unplugs c) es) 0
by_history c nobody es h k = sym (eq-eqb (count (unplugs c) es) 0 (count_none (all_map (λ e i. never (unplugs c e) i) k)))
  where
    never : (b : Bool) → (b ≡ true → false ≡ true) → b ≡ false
    never true h = sym (h refl)
    never false h = refl
by_history c (last_car x) es h k =
    ap (λ (n : ℕ). eqb n 0)
    (count_same (unplug_of x) (unplugs c) (all_map (λ e i. rw (← h) (only (unplugs c e) (eqb x.vehicle e.vehicle) i)) k))

-- ---- a step, and a run

module _ (p : Plan) (c : ℕ) where
  abbrev Known : State → Type 0
  Known s = Its c (last_at c nobody s.site.sessions) s.site.pending

  -- a car is plugged in at d, where no unplug was pending
  plugs : (now t v d : ℕ) (es : List Event) (xs : List Session) → (eqb c d ≡ true → count (unplugs c) es ≡ 0) → Its c (last_at c nobody xs) es
      → Its c (last_at c nobody (xs ++ (charged_session p now v d ∷ []))) (push (unplug t v d) es)
  unfolding charged_session
  plugs now t v d es xs z k =
      rw last_append
      (by_test (λ (w : LastCar). Its c w (push (unplug t v d) es)) (eqb c d)
      (λ e. all_push _ (λ h. eq-eqb v v refl) (none_pending c (last_car (charged_session p now v d)) es (z e)))
      (λ e. all_push _ (λ h. not_both (eqb c d) h e) k))

  known_stepped : (s : State) {r : State} → Stepped p s r → count (unplugs c) s.site.pending ≡ tick (taken_at s.site.places c) → Known s → Known r
  unfolding start_charging uncharged
  known_stepped s (ended l) f k = k
  known_stepped s (charges e es d l h a) f k =
      plugs e.time (e.time + stay p e.vehicle d) e.vehicle d es s.site.sessions
      (λ z.
      let here : c ≡ d = eqb-true c d z in
      omega (arith, popped p c s e es Arrival l h, f, rw (← here) at (available_flag p s.site e.vehicle d a)))
      (all_tail (rw l at k))
  known_stepped s (balks e es l h) f k = rw last_append (all_tail (rw l at k))
  known_stepped s (waits e es l h) f k = all_tail (rw l at k)
  known_stepped s (frees e es l h) f k = all_tail (rw l at k)
  known_stepped s (passes e es q v r l h x a) f k =
      plugs e.time (e.time + stay p v e.charger) v e.charger es s.site.sessions
      (λ z. omega (arith, popped p c s e es Unplug l h, f, ap tick z, tick_le (taken_at s.site.places c)))
      (all_tail (rw l at k))
  known_stepped s (reneges e es q v r l h x a) f k = rw last_append (all_tail (rw l at k))
  known_stepped s (misses e es l h a) f k = all_tail (rw l at k)

  module _ (here : c < length p.chargers) where
    flag : (n : ℕ) → count (unplugs c) (run p n).site.pending ≡ tick (taken_at (run p n).site.places c)
    flag n = flagged p n c (omega (arith, length_places p (events p) (run_moves p n), here))

    known : (n : ℕ) → Known (run p n)
    known n =
        every_run p Known (none_pending c nobody _ (no_unplug c 0 p.vehicles [])) (λ n k. known_stepped (run p n) (stepped p (run p n)) (flag n) k) n

    -- a charger is free by its history just where the engine takes it for free
    pub free_by_events_lem : (n : ℕ) → free_by_events (run p n).site.pending (last_at c nobody (run p n).site.sessions) ≡ free_at p (events p) (run p n).site.places c
    free_by_events_lem n =
        let s = run p n in
        by_history c (last_at c nobody s.site.sessions) s.site.pending (last_there c nobody s.site.sessions tt) (known n)
        ∙ by_flag (taken_at s.site.places c) (count (unplugs c) s.site.pending) (flag n)
        ∙ sym (free_at_lem p s.site.places c)
      where
        by_flag : (b : Bool) (k : ℕ) → k ≡ tick b → eqb k 0 ≡ not b
        by_flag true k h = rw h
        by_flag false k h = rw h

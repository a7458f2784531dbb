-- Laws of a run by events: the units used are the events popped, two for each vehicle and one for each that charged; times are
-- bounded. The accounts that it shares with the run by steps come from the site's moves. None of it looks into `before`.
use Rattle.std.proofs.Common.{◌≡◌, ℕ, zero, suc, ◌+◌, ◌-◌, ◌*◌, ◌<◌, ◌≤◌, eqb, ◌⊎◌, List, [], ◌∷◌, length, sym, refl, ap, ◌∙◌, subst, inl, inr, ⊎_elim, suc-add, zero-add, add-one, arith}
use Rattle.curve.proofs.float.Ceiling.{ceiling_week}
use Rattle.charger.specs.declared.vehicle.Vehicle.{Vehicle}
use Rattle.charger.specs.Lists.{All, none, also}
use Rattle.charger.proofs.Lists.{count-append, all_map, all_head, all_tail, by_cond}
use Rattle.engine.specs.declared.events.Event.{Event}
use Rattle.engine.specs.Plan.{Plan, output, stay, vehicle}
use Rattle.engine.specs.Events.{arrival, renege, unplug, before, push, generate}
use Rattle.engine.specs.SiteState.{initial, start_charging, uncharged}
use Rattle.engine.specs.Discrete.{State, events, charged_session, pop_first, step, start, after, run}
use Rattle.engine.specs.Demand.{arrives, yet_to_arrive, sessions_with, Kept}
use Rattle.engine.proofs.site.Moves.{Moves, none as still, moves_trans, pops}
use Rattle.engine.proofs.site.Laws as L
use Rattle.engine.proofs.site.Laws.{Lawful, Settled, spots_in, count-push}
use Rattle.engine.proofs.events.Order.{all_push}
use Rattle.engine.proofs.discrete.Stepped.{Stepped, stepped, ended, charges, balks, waits, frees, passes, reneges, misses}

pub length_push : (e : Event) (l : List Event) → length (push e l) ≡ suc (length l)
length_push e [] = refl
length_push e (x ∷ xs) = by_cond (λ (l : List Event). length l ≡ suc (suc (length xs))) (before e x) refl (ap suc (length_push e xs))

empty : (l : List Event) → length l ≡ 0 → l ≡ []
empty [] h = refl
empty (x ∷ l) h = absurd (omega arith)

module _ (p : Plan) where
  -- ---- the accounts of both engines

  pub lawful : Lawful (events p)
  unfolding charged_session
  lawful =
      record {
        vehicle = λ now v c. refl;
        charger = λ now v c. refl;
        occupied = λ now v c i. refl;
        arrivals = λ test now v c es. count-push (arrives test) (unplug (now + stay p v c) v c) es ∙ zero-add _;
      }

  pop_moves : (l : List Event) (s : State) → s.site.pending ≡ l → Moves p (events p) s.site (pop_first p l s).site
  pop_moves [] s h = still
  pop_moves (e ∷ es) s h = pops p (events p) s.site e es h

  step_moves : (s : State) → Moves p (events p) s.site (step p s).site
  unfolding step
  step_moves s = pop_moves s.site.pending s refl

  after_moves : (n : ℕ) (s : State) → Moves p (events p) s.site (after p n s).site
  after_moves zero s = still
  after_moves (suc n) s = moves_trans p (events p) (step_moves s) (after_moves n (step p s))

  pub run_moves : (n : ℕ) → Moves p (events p) (initial p (events p)) (run p n).site
  run_moves n = after_moves n (start p)

  pub after_add : (n k : ℕ) (s : State) → after p (n + k) s ≡ after p k (after p n s)
  after_add zero k s = rw zero-add
  after_add (suc n) k s = rw suc-add (after_add n k (step p s))

  pub one_spot : (n v : ℕ) → v < length p.vehicles → spots_in (eqb v) (run p n).site ≡ 1
  one_spot n v b = L.one_spot p (events p) lawful (run_moves n) v b

  -- nobody but the plan's vehicles is in a spot
  pub no_spot : (n v : ℕ) → length p.vehicles ≤ v → spots_in (eqb v) (run p n).site ≡ 0
  no_spot n v b = L.no_spot p (events p) lawful (run_moves n) v b

  -- whoever has a session is one of the plan's vehicles
  pub sessions_in_lem : (n : ℕ) → All (λ x. x.vehicle < length p.vehicles) (run p n).site.sessions
  sessions_in_lem n = L.sessions_in_lem p (events p) lawful (run_moves n)

  pub counts : (n : ℕ)
      → yet_to_arrive (run p n).site.pending + length (run p n).site.queue
      + (sessions_with 0 (run p n).site.sessions + sessions_with 1 (run p n).site.sessions + sessions_with 2 (run p n).site.sessions + sessions_with 3 (run p n).site.sessions)
      ≡ length p.vehicles
  counts n = L.counts p (events p) lawful (run_moves n)

  pub settled : (n : ℕ) → Settled p (events p) (run p n).site
  settled n = L.settled p (events p) lawful (run_moves n)

  pub kept : (n k : ℕ) → Kept (run p n).site.sessions (run p (n + k)).site.sessions
  kept n k = rw after_add (L.kept p (events p) (run p n).site (after_moves k (run p n)))

  -- ---- the units used are the events popped

  -- a step pops an event, or none is left and nothing changes
  used_step : {s t : State} → Stepped p s t → (s.site.pending ≡ []) ⊎ (t.handled ≡ s.handled + 1)
  used_step (ended l) = inl l
  used_step (charges e es c l k a) = inr refl
  used_step (balks e es l k) = inr refl
  used_step (waits e es l k) = inr refl
  used_step (frees e es l k) = inr refl
  used_step (passes e es q v r l k x a) = inr refl
  used_step (reneges e es q v r l k x a) = inr refl
  used_step (misses e es l k a) = inr refl

  pub step-ended : (s : State) → s.site.pending ≡ [] → step p s ≡ s
  unfolding step
  step-ended s h = rw h

  pub stays : (n : ℕ) (s : State) → s.site.pending ≡ [] → after p n s ≡ s
  stays zero s h = refl
  stays (suc n) s h = rw (step-ended s h) (stays n s h)

  -- once no event is left, a larger allowance changes nothing
  pub stopped : (n k : ℕ) → n ≤ k → (run p n).site.pending ≡ [] → run p k ≡ run p n
  stopped n k h e =
      let all : k ≡ n + (k - n) = omega arith in
      ap (run p) all ∙ after_add n (k - n) (start p) ∙ stays (k - n) (run p n) e

  pub run_step : (n : ℕ) → run p (n + 1) ≡ step p (run p n)
  run_step n = after_add n 1 (start p)

  -- what each step keeps holds of every run
  pub every_run : (P : State → Type 0) → P (start p) → ((n : ℕ) → P (run p n) → P (step p (run p n))) → (n : ℕ) → P (run p n)
  every_run P h k zero = h
  every_run P h k (suc n) = subst P (sym (ap (run p) (sym (add-one n)) ∙ run_step n)) (k n (every_run P h k n))

  -- at most n units are used, and fewer only where no event is left
  unfoldable pub Used : ℕ → State → Type 0
  Used n s = (s.handled ≤ n) × ((s.site.pending ≡ []) ⊎ (s.handled ≡ n))

  used_after : (n k : ℕ) (s : State) → s.handled + n ≡ k → Used k (after p n s)
  unfolding Used
  used_after zero k s h = (omega arith, inr (omega arith))
  used_after (suc n) k s h =
      ⊎_elim (λ d. subst (Used k) (sym (stays (suc n) s d)) (omega arith, inl d)) (λ d. used_after n k (step p s) (omega arith)) (used_step (stepped p s))

  pub used : (n : ℕ) → Used n (run p n)
  used n = used_after n n (start p) (zero-add n)

  -- a run's state is told by the events that it has handled
  pub run_handled : (n : ℕ) → run p (run p n).handled ≡ run p n
  run_handled =
      every_run (λ s. run p s.handled ≡ s) refl
      (λ n h. ⊎_elim (λ d. rw (step-ended (run p n) d) h) (λ d. ap (run p) d ∙ run_step (run p n).handled ∙ ap (step p) h) (used_step (stepped p (run p n))))

  -- ---- two events for each vehicle, and one more for each that charged

  events_stepped : (s : State) {t : State} → Stepped p s t
      → t.handled + length t.site.pending + sessions_with 1 s.site.sessions ≡ s.handled + length s.site.pending + sessions_with 1 t.site.sessions
  unfolding start_charging charged_session uncharged
  events_stepped s (ended l) = refl
  events_stepped s (charges e es c l k a) = simp (length_push, count-append) (omega (arith, ap length l))
  events_stepped s (balks e es l k) = simp count-append (omega (arith, ap length l))
  events_stepped s (waits e es l k) = omega (arith, ap length l)
  events_stepped s (frees e es l k) = omega (arith, ap length l)
  events_stepped s (passes e es q v r l k x a) = simp (length_push, count-append) (omega (arith, ap length l))
  events_stepped s (reneges e es q v r l k x a) = simp count-append (omega (arith, ap length l))
  events_stepped s (misses e es l k a) = omega (arith, ap length l)

  events_after : (n : ℕ) (s : State)
      → (after p n s).handled + length (after p n s).site.pending + sessions_with 1 s.site.sessions ≡ s.handled + length s.site.pending + sessions_with 1 (after p n s).site.sessions
  events_after zero s = refl
  events_after (suc n) s = omega (arith, events_after n (step p s), events_stepped s (stepped p s))

  length-generate : (v : ℕ) (xs : List Vehicle) (l : List Event) → length (generate v xs l) ≡ 2 * length xs + length l
  length-generate v [] l = omega arith
  length-generate v (x ∷ xs) l =
      let a = arrival x.arrival v in
      let r = renege (x.arrival + x.wait) v in
      omega (arith, length-generate (suc v) xs (push r (push a l)), length_push r (push a l), length_push a l)

  pub all_events : (n : ℕ) → (run p n).handled + length (run p n).site.pending ≡ 2 * length p.vehicles + sessions_with 1 (run p n).site.sessions
  all_events n = omega (arith, events_after n (start p), length-generate 0 p.vehicles [])

  -- with three units for each vehicle no event is left
  pub enough : (n : ℕ) → 3 * length p.vehicles ≤ n → (run p n).site.pending ≡ []
  unfolding Used
  enough n h = ⊎_elim (λ d. d) (λ d. empty _ (omega (arith, d, counts n, all_events n))) (used n).1

  -- ---- times are bounded: each event handled adds at most one stay

  -- a stay is at most two weeks
  pub stay_weeks : (v c : ℕ) → stay p v c ≤ 1209600
  unfolding stay
  stay_weeks v c = omega (arith, ceiling_week (output p v c).duration.0, ceiling_week (vehicle p v).idle.0)

  abbrev pub By : ℕ → Event → Type 0
  By k e = e.time ≤ 2000000 * (k + 1)

  later : (s : State) {e : Event} {es : List Event} → All (By s.handled) (e ∷ es) → All (By (s.handled + 1)) es
  later s h = all_map (λ x b. omega (arith, b)) (all_tail h)

  pushed_times : (s : State) (e : Event) (es : List Event) (v c : ℕ) → All (By s.handled) (e ∷ es)
      → All (By (s.handled + 1)) (push (unplug (e.time + stay p v c) v c) es)
  pushed_times s e es v c h = all_push _ (omega (arith, all_head h, stay_weeks v c)) (later s h)

  times_stepped : (s : State) {t : State} → Stepped p s t → All (By s.handled) s.site.pending → All (By t.handled) t.site.pending
  unfolding start_charging
  times_stepped s (ended l) h = h
  times_stepped s (charges e es c l k a) h = pushed_times s e es e.vehicle c (rw l at h)
  times_stepped s (balks e es l k) h = later s (rw l at h)
  times_stepped s (waits e es l k) h = later s (rw l at h)
  times_stepped s (frees e es l k) h = later s (rw l at h)
  times_stepped s (passes e es q v r l k x a) h = pushed_times s e es v e.charger (rw l at h)
  times_stepped s (reneges e es q v r l k x a) h = later s (rw l at h)
  times_stepped s (misses e es l k a) h = later s (rw l at h)

  times_after : (n : ℕ) (s : State) → All (By s.handled) s.site.pending → All (By (after p n s).handled) (after p n s).site.pending
  times_after zero s h = h
  times_after (suc n) s h = times_after n (step p s) (times_stepped s (stepped p s) h)

  times_generate : (v : ℕ) (xs : List Vehicle) (l : List Event) → All (λ (x : Vehicle). x.arrival + x.wait ≤ 2000000) xs → All (By 0) l → All (By 0) (generate v xs l)
  times_generate v [] l h k = k
  times_generate v (x ∷ xs) l (also h hs) k = times_generate (suc v) xs _ hs (all_push _ (omega arith) (all_push _ (omega arith) k))

  pub times : (n : ℕ) → All (λ (x : Vehicle). x.arrival + x.wait ≤ 2000000) p.vehicles → All (By (run p n).handled) (run p n).site.pending
  times n h = times_after n (start p) (times_generate 0 p.vehicles [] h none)

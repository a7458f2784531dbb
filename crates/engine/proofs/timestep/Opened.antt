-- Document 01's word "free", of a run by steps: a charger has a car just while the last session there is open, and no other is.
use Rattle.std.proofs.Common.{◌≡◌, ℕ, zero, suc, ◌+◌, ◌<◌, Bool, true, false, cond, not, ◌&&◌, eqb, ◌≢◌, List, [], ◌∷◌, ◌++◌, length, get_or, drop, set, replicate, sym, refl, ap, ◌∙◌, ⊎_elim, le_of_suc-le-suc, not-suc-le-zero, add-zero, add-suc, suc-add, zero-add, arith, length-drop, length-set, drop-cons, get_or-set_other, get_or-set_same, drop-set-lt, eq-eqb, ne_eqb}
use Rattle.charger.specs.First.{Found, nobody, found, first}
use Rattle.charger.specs.Lists.{tick, count, All, none, also}
use Rattle.charger.proofs.Lists.{all_append, all_head, all_tail, all_at, by_test, Searched, missed, met, searched}
use Rattle.engine.specs.declared.events.Event.{Event}
use Rattle.engine.specs.declared.events.EventType.{EventType}
use Rattle.engine.specs.declared.events.EventType.TheVariants.{Arrival, Renege, Unplug}
use Rattle.engine.specs.declared.session.Session.{Session}
use Rattle.engine.specs.declared.session.Outcome.{Outcome}
use Rattle.engine.specs.declared.session.Outcome.TheVariants.{Open, Charged, Reneged, Balked}
use Rattle.power.specs.declared.charger_state.Status.{Status}
use Rattle.power.specs.declared.charger_state.Status.TheVariants.{Free, Charging, Idle, Finished}
use Rattle.power.specs.declared.charger_state.ChargerState.{ChargerState}
use Rattle.power.specs.ChargerState.{is_free, is_finished, empty, all_free}
use Rattle.engine.specs.Plan.{Plan, fits, vehicle, rated}
use Rattle.engine.specs.SiteState.{SiteState, below, uncharged, balks as balks_at, with_queue, with_pending, turned_away, freed, start_charging, free_at, available, arrived, reneged, passed_on, release, handle, popped, is_empty}
use Rattle.engine.specs.Timestep.{open_session, plugged, steps, finalized, closed, with_closed, powered, finished, ended, release_all, release_finished, run}
use Rattle.engine.specs.Demand.{is_closed, has_charger, plugged_at, of_outcome, sessions_with, LastCar, last_car, last_at, free_by_steps}
use Rattle.engine.specs.Demand as D
use Rattle.engine.proofs.site.Laws.{length_places}
use Rattle.power.proofs.charger_state.Vacant.{and_left, and_right}
use Rattle.engine.proofs.timestep.Held.{missing, all_set, Holds, HeldBut, HeldFrom, same_or_not, not_both, close, held_tail, held_head, held_close, closed_keeps, from_start, held_charged}
use Rattle.power.proofs.power.SameCars.{same_free, same_charged}
use Rattle.engine.proofs.timestep.RunMoves.{Keeps, run_keeps, run_reached}
use Rattle.engine.proofs.site.Waits.{Dated, dated_at, KeptBy, keeps, kept_start}

-- ---- the sessions of a charger

-- the session is one of a car that is plugged in at the charger
abbrev open_at : ℕ → Session → Bool
open_at c x = not (is_closed x.outcome) && eqb c x.charger

-- the session is none of a car that was plugged in at the charger
abbrev Elsewhere : ℕ → Session → Type 0
Elsewhere c x = plugged_at c x ≡ false

-- the charger is free, and every session there is closed; or it is not, and just the last session there is open
data Told (c : ℕ) : Bool → List Session → Type 0 where
  nothing : Told c true []
  last : {x : Session} {xs : List Session} → open_at c x ≡ true → All (Elsewhere c) xs → Told c false (x ∷ xs)
  past : {b : Bool} {x : Session} {xs : List Session} → open_at c x ≡ false → Told c b xs → Told c b (x ∷ xs)

-- of a session with the outcome o, where b says whether it is one of the charger
open_plugged : (o : Outcome) (b : Bool) → (not (is_closed o) && b) ≡ true → (has_charger o && b) ≡ true
open_plugged Open b h = h
open_plugged Charged b h = cc
open_plugged Reneged b h = h
open_plugged Balked b h = h

open_unclosed : (o : Outcome) (b : Bool) → (not (is_closed o) && b) ≡ true → is_closed o ≡ false
open_unclosed Open b h = refl
open_unclosed Charged b h = cc
open_unclosed Reneged b h = cc
open_unclosed Balked b h = cc

unplugged : (o : Outcome) (b : Bool) → (has_charger o && b) ≡ false → (not (is_closed o) && b) ≡ false
unplugged Open b h = h
unplugged Charged b h = refl
unplugged Reneged b h = refl
unplugged Balked b h = refl

-- a car that was plugged in there, and is no more
past_closed : (o : Outcome) (b : Bool) → (not (is_closed o) && b) ≡ false → (has_charger o && b) ≡ true → is_closed o ≡ true
past_closed Open b h k = not_both b k h
past_closed Charged b h k = refl
past_closed Reneged b h k = refl
past_closed Balked b h k = refl

not_open : (c : ℕ) (x : Session) → Elsewhere c x → open_at c x ≡ false
not_open c x h = unplugged x.outcome (eqb c x.charger) h

-- no session is both open there and elsewhere
not_elsewhere : {A : Type 0} (c : ℕ) (x : Session) → open_at c x ≡ true → Elsewhere c x → A
not_elsewhere c x h k = not_both (plugged_at c x) (open_plugged x.outcome (eqb c x.charger) h) k

last_elsewhere : (c : ℕ) (w : LastCar) {xs : List Session} → All (Elsewhere c) xs → last_at c w xs ≡ w
last_elsewhere c w none = refl
last_elsewhere c w (also h hs) = rw h (last_elsewhere c w hs)

module _ {c : ℕ} where
  told_append : {b : Bool} {xs : List Session} (x : Session) → Elsewhere c x → Told c b xs → Told c b (xs ++ (x ∷ []))
  told_append x h nothing = past (not_open c x h) nothing
  told_append x h (last o a) = last o (all_append a (also h none))
  told_append x h (past o t) = past o (told_append x h t)

  told_start : {xs : List Session} (x : Session) → open_at c x ≡ true → Told c true xs → Told c false (xs ++ (x ∷ []))
  told_start x h nothing = last h none
  told_start x h (past o t) = past o (told_start x h t)

  told_elsewhere : {xs : List Session} → All (Elsewhere c) xs → Told c true xs
  told_elsewhere none = nothing
  told_elsewhere (also {x = x} h hs) = past (not_open c x h) (told_elsewhere hs)

  -- the open session is closed
  told_closed : {b : Bool} {xs : List Session} (k : ℕ) (y d : Session) → k < length xs → open_at c (get_or xs k d) ≡ true → open_at c y ≡ false → Told c b xs
      → Told c true (set xs k y)
  told_closed k y d l h n nothing = absurd (not-suc-le-zero l)
  told_closed zero y d l h n (last o a) = past n (told_elsewhere a)
  told_closed (suc k) y d l h n (last {xs = xs} o a) = not_elsewhere c (get_or xs k d) h (all_at xs k d (le_of_suc-le-suc l) a)
  told_closed zero y d l h n (past {x = x} o t) = not_both (open_at c x) h o
  told_closed (suc k) y d l h n (past o t) = past o (told_closed k y d (le_of_suc-le-suc l) h n t)

  -- a session elsewhere is rewritten
  told_set : {b : Bool} {xs : List Session} (k : ℕ) (y d : Session) → Elsewhere c (get_or xs k d) → Elsewhere c y → Told c b xs → Told c b (set xs k y)
  told_set k y d h n nothing = nothing
  told_set zero y d h n (last {x = x} o a) = not_elsewhere c x o h
  told_set (suc k) y d h n (last {xs = xs} o a) = last o (all_set xs k y n a)
  told_set zero y d h n (past o t) = past (not_open c y n) t
  told_set (suc k) y d h n (past o t) = past o (told_set k y d h n t)

  told_none : {xs : List Session} → Told c true xs → All (λ x. open_at c x ≡ false) xs
  told_none nothing = none
  told_none (past o t) = also o (told_none t)

  -- the history of the charger says whether it is free
  told_free : {b : Bool} {xs : List Session} (w : LastCar) → free_by_steps w ≡ true → Told c b xs → free_by_steps (last_at c w xs) ≡ b
  told_free w h nothing = h
  told_free w h (last {x = x} o a) =
      rw (open_plugged x.outcome (eqb c x.charger) o, last_elsewhere c (last_car x) a) (open_unclosed x.outcome (eqb c x.charger) o)
  told_free w h (past {x = x} o t) =
      told_free (cond (plugged_at c x) (last_car x) w)
      (by_test (λ (r : LastCar). free_by_steps r ≡ true) (plugged_at c x) (past_closed x.outcome (eqb c x.charger) o) (λ e. h))
      t

-- no session is open, if every charger is free
none_open : (xs : List Session) → ((c : ℕ) → Told c true xs) → sessions_with 0 xs ≡ 0
none_open xs h = count_open xs (λ c. told_none (h c))
  where
    closed_one : (o : Outcome) (c : ℕ) → (not (is_closed o) && eqb c c) ≡ false → tick (eqb (D.outcome_number o) 0) ≡ 0
    closed_one Open c h = not_both (eqb c c) (eq-eqb c c refl) h
    closed_one Charged c h = refl
    closed_one Reneged c h = refl
    closed_one Balked c h = refl

    count_open : (xs : List Session) → ((c : ℕ) → All (λ x. open_at c x ≡ false) xs) → count (of_outcome 0) xs ≡ 0
    count_open [] h = refl
    count_open (x ∷ xs) h = omega (arith, closed_one x.outcome x.charger (all_head (h x.charger)), count_open xs (λ c. all_tail (h c)))

-- ---- the chargers

-- no car is there, or one that is to be released, with its session closed
abbrev left : Status → Bool
left Free = true
left Charging = false
left Idle = false
left Finished = true

free_left : (s : Status) → is_free s ≡ true → left s ≡ true
free_left Free h = refl
free_left Charging h = h
free_left Idle h = h
free_left Finished h = refl

finished_left : (s : Status) → is_finished s ≡ true → left s ≡ true
finished_left Free h = refl
finished_left Charging h = h
finished_left Idle h = h
finished_left Finished h = refl

unfinished_left : (s : Status) → is_finished s ≡ false → left s ≡ is_free s
unfinished_left Free h = refl
unfinished_left Charging h = refl
unfinished_left Idle h = refl
unfinished_left Finished h = h

empty_left : left empty.status ≡ true
unfolding empty
empty_left = refl

-- each charger is as its sessions tell
abbrev Known : SiteState ChargerState → Type 0
Known f = (i : ℕ) → Told i (left (get_or f.places i empty).status) f.sessions

module _ (p : Plan) where
  abbrev F : Type 0
  F = SiteState ChargerState

  -- ---- a charger is taken or freed

  written : (l : List ChargerState) (c : ℕ) (s : ChargerState) (xs : List Session) → c < length l → Told c (left s.status) xs
      → ((i : ℕ) → i ≢ c → Told i (left (get_or l i empty).status) xs) → (i : ℕ) → Told i (left (get_or (set l c s) i empty).status) xs
  written l c s xs b h k i =
      ⊎_elim (λ (e : i ≡ c). rw (e, get_or-set_same l c s empty b) h) (λ (ne : i ≢ c). rw (get_or-set_other l c i s empty ne) (k i ne)) (same_or_not i c)

  known_start : (now v c : ℕ) (f : F) → c < length f.places → left (get_or f.places c empty).status ≡ true → Known f → Known (start_charging p (steps p) now v c f)
  unfolding start_charging plugged open_session
  known_start now v c f b h k =
      written f.places c _ _ b (told_start (open_session (vehicle p v) now v c) (eq-eqb c c refl) (rw h at (k c))) (λ i ne. told_append (open_session (vehicle p v) now v c) (ne_eqb i c ne) (k i))

  known_passed : (now c : ℕ) (f : F) (x : Found) → c < length f.places → left (get_or f.places c empty).status ≡ true → Known f → Known (passed_on p (steps p) now c f x)
  known_passed now c f x b h k = go x
    where
      known_freed : Known (freed p (steps p) c f)
      known_freed = written f.places c empty f.sessions b (rw empty_left (rw h at (k c))) (λ i ne. k i)

      go : (x : Found) → Known (passed_on p (steps p) now c f x)
      go nobody = known_freed
      go (found v rest) =
          known_start now v c (with_queue rest (freed p (steps p) c f)) (rw length-set b) (rw (get_or-set_same f.places c empty empty b) empty_left) known_freed

  passed-drop : (now c : ℕ) (f : F) (x : Found) → drop (suc c) (passed_on p (steps p) now c f x).places ≡ drop (suc c) f.places
  unfolding start_charging
  passed-drop now c f nobody = drop-set-lt (suc c) f.places c empty (omega arith)
  passed-drop now c f (found v rest) =
      drop-set-lt (suc c) (set f.places c empty) c (plugged (vehicle p v) (p.battery (vehicle p v).profile) (rated p v c) v (length f.sessions)) (omega arith) ∙ drop-set-lt (suc c) f.places c empty (omega arith)

  -- the finished chargers from the place c on are released
  known_released : (now c : ℕ) (ss : List ChargerState) (f : F) → drop c f.places ≡ ss → Known f → Known (release_all p now (finished c ss) f)
  known_released now c [] f e k = k
  known_released now c (s ∷ ss) f e k =
      let b : c < length f.places = omega (arith, length-drop c f.places, ap length e) in
      let both : get_or f.places c empty ∷ drop (suc c) f.places ≡ s ∷ ss = sym (drop-cons f.places c empty b) ∙ e in
      let here : get_or f.places c empty ≡ s = cc in
      let rest : drop (suc c) f.places ≡ ss = cc in
      let next = first (λ w. fits p w c) f.queue in
      by_test (λ (cs : List ℕ). Known (release_all p now cs f)) (is_finished s.status)
      (λ h.
      known_released now (suc c) ss (release p (steps p) now c f) (passed-drop now c f next ∙ rest)
      (known_passed now c f next b (rw here (finished_left s.status h)) k))
      (λ h. known_released now (suc c) ss f rest k)

  -- ---- the sessions of finished chargers are closed

  module _ (now c : ℕ) (s : ChargerState) (xs : List Session) (h : Holds c s xs) where
    closed_here : {b : Bool} → Told c b xs → Told c true (close p now s xs)
    unfolding finalized
    closed_here k = told_closed s.session _ missing h.inside (rw (h.is_open, h.there, eq-eqb c c refl)) refl k

    closed_there : {b : Bool} (i : ℕ) → i ≢ c → Told i b xs → Told i b (close p now s xs)
    unfolding finalized
    closed_there i ne k =
        let apart : eqb i (get_or xs s.session missing).charger ≡ false = rw h.there (ne_eqb i c ne) in
        told_set s.session _ missing (rw h.is_open apart) apart k

  -- the states ss stand at the places from c on, as in `HeldFrom`: the chargers before c stay as they are
  closed-before : {b : Bool} (now c i : ℕ) (ss : List ChargerState) (xs : List Session) → i < c → HeldFrom p c ss xs → Told i b xs → Told i b (closed now ss xs)
  closed-before {b} now c i ss xs l = closed_keeps p (Told i b) now c ss xs (λ j ys f o. closed_there now (c + j) (get_or ss j empty) ys o i (λ e. omega arith))

  -- and of those from c on each that is finished has its session closed
  closed_from : (now c : ℕ) (ss : List ChargerState) (xs : List Session) → HeldFrom p c ss xs → ((j : ℕ) → Told (c + j) (is_free (get_or ss j empty).status) xs)
      → (j : ℕ) → Told (c + j) (left (get_or ss j empty).status) (closed now ss xs)
  unfolding empty
  closed_from now c [] xs h k j = k j
  closed_from now c (s ∷ ss) xs h k zero =
      by_test (λ (ys : List Session). Told (c + 0) (left s.status) (closed now ss ys)) (is_finished s.status)
      (λ f.
      closed-before now (suc c) (c + 0) ss (close p now s xs) (omega arith) (held_close p now c s ss xs f h)
      (rw (finished_left s.status f, add-zero) (closed_here now c s xs (held_head p c s ss xs f h) (rw add-zero at (k 0)))))
      (λ f. closed-before now (suc c) (c + 0) ss xs (omega arith) (held_tail p c s ss xs h) (rw (unfinished_left s.status f) (k 0)))
  closed_from now c (s ∷ ss) xs h k (suc j) =
      let further : (j : ℕ) → Told (suc c + j) (is_free (get_or ss j empty).status) xs = λ j. rw (suc-add, ← add-suc) (k (suc j)) in
      rw (add-suc, ← suc-add)
      (by_test (λ (ys : List Session). Told (suc c + j) (left (get_or ss j empty).status) (closed now ss ys)) (is_finished s.status)
      (λ f.
      closed_from now (suc c) ss (close p now s xs) (held_close p now c s ss xs f h)
      (λ j. closed_there now c s xs (held_head p c s ss xs f h) (suc c + j) (λ e. omega arith) (further j))
      j)
      (λ f. closed_from now (suc c) ss xs (held_tail p c s ss xs h) further j))

  -- ---- a round

  -- between rounds no car is left to be released: each holds an open session
  unfinished : (f : F) → HeldBut [] f → Known f → (i : ℕ) → is_finished (get_or f.places i empty).status ≡ false
  unfolding HeldBut
  unfinished f h k i = go (get_or f.places i empty).status refl
    where
      go : (s : Status) → (get_or f.places i empty).status ≡ s → is_finished s ≡ false
      go Free e = refl
      go Charging e = refl
      go Idle e = refl
      go Finished e =
          ⊎_elim (λ (z : ⊥). absurd z)
          (λ (held : Holds i (get_or f.places i empty) f.sessions).
          let x = get_or f.sessions (get_or f.places i empty).session missing in
          not_both (open_at i x) (rw (held.is_open, held.there, eq-eqb i i refl)) (all_at f.sessions _ missing held.inside (told_none (rw e at (k i)))))
          (h i (rw e))

  known_free : (f : F) → HeldBut [] f → Known f → (i : ℕ) → Told i (is_free (get_or f.places i empty).status) f.sessions
  known_free f h k i = rw (unfinished_left (get_or f.places i empty).status (unfinished f h k i)) at (k i)

  free_charged : (f : F) (i : ℕ) → is_free (get_or (powered p f).places i empty).status ≡ is_free (get_or f.places i empty).status
  free_charged f i = same_free (same_charged p.limit p.curve f.places) i

  known_round : (now : ℕ) (f : F) → HeldBut [] f → Known f → Known (release_finished p now (with_closed p now (powered p f)))
  known_round now f h k =
      let g = powered p f in
      known_released now 0 g.places (with_closed p now g) refl
      (λ i. rw zero-add at (closed_from now 0 g.places g.sessions (from_start p g (held_charged p f h)) (λ j. rw (zero-add, free_charged f j) (known_free f h k j)) i))

  -- ---- an event

  free_there : (ss : List ChargerState) (c : ℕ) → free_at p (steps p) ss c ≡ true → (c < length ss) × (left (get_or ss c empty).status ≡ true)
  free_there [] c h = not_both false h refl
  free_there (s ∷ ss) zero h = (omega arith, free_left s.status h)
  free_there (s ∷ ss) (suc c) h = let r = free_there ss c h in (omega (arith, r.0), r.1)

  known_popped : (e : Event) (es : List Event) (f : F) → Dated p ⊥ e → Known f → Known (popped p (steps p) e es f)
  unfolding uncharged
  known_popped e es f d k = on e.kind refl
    where
      away : (b : Bool) → Known (turned_away e.vehicle (with_pending es f) b)
      away true = λ i. told_append _ refl (k i)
      away false = k

      arrives : {x : Found} → Searched (available p (steps p) (with_pending es f) e.vehicle) (below (length p.chargers)) x
          → Known (arrived p (steps p) e.time e.vehicle (with_pending es f) x)
      arrives (missed n) = away (balks_at p.vehicles p.queue_places e.vehicle f.queue)
      arrives (met q c r n a x) =
          let free = free_there f.places c (and_left (free_at p (steps p) f.places c) (fits p e.vehicle c) a) in
          known_start e.time e.vehicle c (with_pending es f) free.0 free.1 k

      leaves : (x : Found) → Known (reneged p (steps p) e.time (with_pending es f) x)
      leaves nobody = k
      leaves (found v rest) = λ i. told_append _ refl (k i)

      on : (y : EventType) → e.kind ≡ y → Known (handle p (steps p) y e.time e.vehicle e.charger (with_pending es f))
      on Arrival h = arrives (searched (available p (steps p) (with_pending es f) e.vehicle) (below (length p.chargers)))
      on Renege h = leaves (first (eqb e.vehicle) f.queue)
      on Unplug h = absurd (dated_at p ⊥ e Unplug h d)

  -- ---- a run

  known_keeps : Keeps p (λ now f. KeptBy p now f × Known f)
  known_keeps =
      record {
        pops = λ now e es f l o k. ((keeps p).pops now e es f l o k.0, known_popped e es f (all_head (rw l at k.0.dated)) k.1);
        ends = λ now f h k. ((keeps p).ends now f h k.0, known_round now f h k.1);
      }

  start_left : (n i : ℕ) → left (get_or (replicate n empty) i empty).status ≡ true
  start_left zero i = empty_left
  start_left (suc n) zero = empty_left
  start_left (suc n) (suc i) = start_left n i

  known_run : (n : ℕ) → Known (run p n).site
  known_run n = (run_keeps p known_keeps n (kept_start p, λ i. rw start_left nothing)).1

  told_run : (n i : ℕ) → Told i (is_free (get_or (run p n).site.places i empty).status) (run p n).site.sessions
  told_run n i = known_free (run p n).site (run_reached p n).held (known_run n) i

  -- between rounds no charger is finished
  pub none_finished_between : (n i : ℕ) → is_finished (get_or (run p n).site.places i empty).status ≡ false
  none_finished_between n i = unfinished (run p n).site (run_reached p n).held (known_run n) i

  place_free : (ss : List ChargerState) (c : ℕ) → c < length ss → free_at p (steps p) ss c ≡ is_free (get_or ss c empty).status
  place_free [] c l = absurd (not-suc-le-zero l)
  place_free (s ∷ ss) zero l = refl
  place_free (s ∷ ss) (suc c) l = place_free ss c (le_of_suc-le-suc l)

  -- a charger is free by its history just where the engine takes it for free
  pub free_by_steps_lem : (n c : ℕ) → c < length p.chargers → free_by_steps (last_at c D.nobody (run p n).site.sessions) ≡ free_at p (steps p) (run p n).site.places c
  free_by_steps_lem n c l =
      told_free D.nobody refl (told_run n c) ∙ sym (place_free (run p n).site.places c (omega (arith, length_places p (steps p) (run_reached p n).moves, l)))

  all_free_at : (ss : List ChargerState) (i : ℕ) → all_free ss ≡ true → is_free (get_or ss i empty).status ≡ true
  unfolding empty
  all_free_at [] i h = refl
  all_free_at (s ∷ ss) zero h = and_left (is_free s.status) (all_free ss) h
  all_free_at (s ∷ ss) (suc i) h = all_free_at ss i (and_right (is_free s.status) (all_free ss) h)

  -- a run that has ended has no open session
  pub none_open_at_end : (n : ℕ) → ended p (run p n) ≡ true → sessions_with 0 (run p n).site.sessions ≡ 0
  none_open_at_end n h =
      let f = (run p n).site in
      let free : all_free f.places ≡ true = and_left (all_free f.places) (is_empty f.queue) (and_right (is_empty f.pending) _ h) in
      none_open f.sessions (λ c. rw (all_free_at f.places c free) at (told_run n c))

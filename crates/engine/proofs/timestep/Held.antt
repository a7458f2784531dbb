-- Every car that is plugged in has an open session of its own: the one at its session index, which names its charger.
use Rattle.std.proofs.Common.{◌≡◌, ℕ, zero, suc, ◌+◌, ◌<◌, Bool, true, false, cond, eqb, ◌≢◌, ◌⊎◌, List, [], ◌∷◌, ◌++◌, length, get_or, set, replicate, sym, refl, ◌∙◌, inl, inr, ⊎_elim, add-zero, add-suc, suc-add, zero-add, arith, length-append, length-set, get_or-set_other, eqb-true}
use borrow.Author.Tests.{eqb-false}
use lib.ListN.{get_or-append}
use lib.Seq.{get_or-append_seam}
use Rattle.engine.specs.declared.session.Session.{Session}
use Rattle.engine.specs.declared.session.Outcome.{Outcome}
use Rattle.engine.specs.declared.session.Outcome.TheVariants.{Open}
use Rattle.charger.specs.First.{Found, nobody, found, first}
use Rattle.charger.specs.Lists.{count, All, none, also}
use Rattle.charger.proofs.Lists.{all_head, all_tail, all_at, by_test}
use Rattle.engine.proofs.site.Kept.{kept_refl, kept_trans, kept_set}
use Rattle.engine.specs.Demand.{has, is_closed, Kept}
use Rattle.engine.proofs.site.Moves.{Fitted, Progress}
use Rattle.engine.specs.Plan.{Plan, fits, vehicle, rated}
use Rattle.engine.specs.SiteState.{SiteState, uncharged, start_charging, freed, with_queue, with_session, passed_on, release, free_at, initial}
use Rattle.power.specs.declared.charger_state.Status.{Status}
use Rattle.power.specs.declared.charger_state.Status.TheVariants.{Free, Charging, Idle, Finished}
use Rattle.power.specs.declared.charger_state.ChargerState.{ChargerState}
use Rattle.power.specs.ChargerState.{is_free, is_finished, empty}
use Rattle.engine.specs.Timestep.{open_session, plugged, steps, finalized, closed, with_closed, powered, finished, release_all}
use Rattle.power.proofs.power.SameCars.{SameCars, none as no-cars, also as also-car, same_free, same_session, same_size, same_charged}

-- the session that `closed` falls back on
abbrev pub missing : Session
missing = uncharged 0 Open 0

pub record Holds (c : ℕ) (s : ChargerState) (xs : List Session) : Type 0 where
  pub inside : s.session < length xs
  pub is_open : (get_or xs s.session missing).outcome ≡ Open
  pub there : (get_or xs s.session missing).charger ≡ c

-- a member of a list of places
abbrev pub In : ℕ → List ℕ → Type 0
In c [] = ⊥
In c (x ∷ xs) = (c ≡ x) ⊎ In c xs

pub same_or_not : (i c : ℕ) → (i ≡ c) ⊎ (i ≢ c)
same_or_not i c = go (eqb i c) refl
  where
    go : (b : Bool) → eqb i c ≡ b → (i ≡ c) ⊎ (i ≢ c)
    go true e = inl (eqb-true i c e)
    go false e = inr (eqb-false i c e)

-- every car holds a session, but for those at the places cs
unfoldable pub HeldBut : List ℕ → SiteState ChargerState → Type 0
HeldBut cs f = (c : ℕ) → is_free (get_or f.places c empty).status ≡ false → In c cs ⊎ Holds c (get_or f.places c empty) f.sessions

-- ---- more sessions

holds-append : (c : ℕ) (s : ChargerState) (xs ys : List Session) → Holds c s xs → Holds c s (xs ++ ys)
holds-append c s xs ys h =
    let e : get_or (xs ++ ys) s.session missing ≡ get_or xs s.session missing = get_or-append xs ys missing s.session h.inside in
    record { inside = rw length-append (omega arith); is_open = rw e h.is_open; there = rw e h.there }

pub held_append : (cs : List ℕ) (f : SiteState ChargerState) (x : Session) → HeldBut cs f → HeldBut cs (with_session x f)
unfolding HeldBut
held_append cs f x h c o = ⊎_elim inl (λ k. inr (holds-append c _ f.sessions (x ∷ []) k)) (h c o)

-- ---- a place is written

empty_free : is_free empty.status ≡ true
unfolding empty
empty_free = refl

pub not_both : {A : Type 0} (b : Bool) → b ≡ true → b ≡ false → A
not_both {A} b h k = absurd (let z : ◌≡◌ {A = Bool} true false = sym h ∙ k in go z)
  where
    go : true ≡ false → ⊥
    go e = let n : ◌≡◌ {A = ℕ} 0 1 = cc in omega arith

-- what stands at the place that was written
at_set : (l : List ChargerState) (c : ℕ) (x : ChargerState) → (get_or (set l c x) c empty ≡ x) ⊎ (get_or (set l c x) c empty ≡ empty)
at_set [] c x = inr refl
at_set (y ∷ l) zero x = inl refl
at_set (y ∷ l) (suc c) x = at_set l c x

pub all_set : {A : Type 0} {P : A → Type 0} (xs : List A) (i : ℕ) (y : A) → P y → All P xs → All P (set xs i y)
all_set [] i y h k = none
all_set (x ∷ xs) zero y h k = also h (all_tail k)
all_set (x ∷ xs) (suc i) y h k = also (all_head k) (all_set xs i y h (all_tail k))

module _ (t : Plan) where
  pub held_freed : (c : ℕ) (cs : List ℕ) (f : SiteState ChargerState) → HeldBut (c ∷ cs) f → HeldBut cs (freed t (steps t) c f)
  unfolding HeldBut
  held_freed c cs f h i o =
      ⊎_elim
      (λ (e : i ≡ c).
      let gone : get_or (set f.places c empty) c empty ≡ empty = ⊎_elim (λ a. a) (λ a. a) (at_set f.places c empty) in
      not_both (is_free empty.status) empty_free (rw (e, gone) at o))
      (λ (ne : i ≢ c).
      let same : get_or (set f.places c empty) i empty ≡ get_or f.places i empty = get_or-set_other f.places c i empty empty ne in
      rw same (⊎_elim (λ (m : In i (c ∷ cs)). ⊎_elim (λ (q : i ≡ c). absurd (ne q)) inl m) inr (h i (rw same at o))))
      (same_or_not i c)

  holds_new : (now v c : ℕ) (xs : List Session) → Holds c (plugged (vehicle t v) (t.battery (vehicle t v).profile) (rated t v c) v (length xs)) (xs ++ (open_session (vehicle t v) now v c ∷ []))
  unfolding plugged open_session
  holds_new now v c xs =
      let e : get_or (xs ++ (open_session (vehicle t v) now v c ∷ [])) (length xs) missing ≡ open_session (vehicle t v) now v c = get_or-append_seam xs (open_session (vehicle t v) now v c) [] missing in
      record { inside = rw length-append (omega arith); is_open = rw e; there = rw e }

  pub held_start : (now v c : ℕ) (cs : List ℕ) (f : SiteState ChargerState) → HeldBut cs f → HeldBut cs (start_charging t (steps t) now v c f)
  unfolding HeldBut start_charging
  held_start now v c cs f h i o =
      let x = plugged (vehicle t v) (t.battery (vehicle t v).profile) (rated t v c) v (length f.sessions) in
      ⊎_elim
      (λ (e : i ≡ c).
      ⊎_elim
      (λ (a : get_or (set f.places c x) c empty ≡ x). inr (rw (e, a) (holds_new now v c f.sessions)))
      (λ (a : get_or (set f.places c x) c empty ≡ empty). not_both (is_free empty.status) empty_free (rw (e, a) at o))
      (at_set f.places c x))
      (λ (ne : i ≢ c).
      let same : get_or (set f.places c x) i empty ≡ get_or f.places i empty = get_or-set_other f.places c i x empty ne in
      rw same (⊎_elim inl (λ k. inr (holds-append i _ f.sessions (open_session (vehicle t v) now v c ∷ []) k)) (h i (rw same at o))))
      (same_or_not i c)

  -- a released charger
  pub held_passed : (now c : ℕ) (cs : List ℕ) (f : SiteState ChargerState) (x : Found) → HeldBut (c ∷ cs) f → HeldBut cs (passed_on t (steps t) now c f x)
  unfolding HeldBut
  held_passed now c cs f nobody h = held_freed c cs f h
  held_passed now c cs f (found v rest) h = held_start now v c cs (with_queue rest (freed t (steps t) c f)) (held_freed c cs f h)

  pub held_released : (now : ℕ) (cs : List ℕ) (f : SiteState ChargerState) → HeldBut cs f → HeldBut [] (release_all t now cs f)
  held_released now [] f h = h
  held_released now (c ∷ cs) f h =
      held_released now cs (release t (steps t) now c f) (held_passed now c cs f (first (λ w. fits t w c) f.queue) h)

  -- ---- the sessions of finished chargers are closed

  abbrev pub close : ℕ → ChargerState → List Session → List Session
  close now s xs = set xs s.session (finalized now s (get_or xs s.session missing))

  -- another car's session is left alone
  holds_close : (now c i : ℕ) (s r : ChargerState) (xs : List Session) → c ≢ i → Holds c s xs → Holds i r xs → Holds i r (close now s xs)
  holds_close now c i s r xs ne h k =
      let other : r.session ≢ s.session = λ e. ne (sym h.there ∙ rw (← e) k.there) in
      let same : get_or (close now s xs) r.session missing ≡ get_or xs r.session missing = get_or-set_other xs s.session r.session _ missing other in
      record { inside = rw length-set k.inside; is_open = rw same k.is_open; there = rw same k.there }

  -- the states ss stand at the places from c on, and each that is not free holds its session
  unfoldable pub HeldFrom : ℕ → List ChargerState → List Session → Type 0
  HeldFrom c ss xs = (j : ℕ) → is_free (get_or ss j empty).status ≡ false → Holds (c + j) (get_or ss j empty) xs

  finished_busy : (status : Status) → is_finished status ≡ true → is_free status ≡ false
  finished_busy Free h = cc
  finished_busy Charging h = refl
  finished_busy Idle h = refl
  finished_busy Finished h = refl

  pub held_tail : (c : ℕ) (s : ChargerState) (ss : List ChargerState) (xs : List Session) → HeldFrom c (s ∷ ss) xs → HeldFrom (suc c) ss xs
  unfolding HeldFrom
  held_tail c s ss xs h j o = rw (suc-add, ← add-suc) (h (suc j) o)

  -- the first, if it is finished
  pub held_head : (c : ℕ) (s : ChargerState) (ss : List ChargerState) (xs : List Session) → is_finished s.status ≡ true → HeldFrom c (s ∷ ss) xs → Holds c s xs
  unfolding HeldFrom
  held_head c s ss xs f h = rw add-zero at (h 0 (finished_busy s.status f))

  pub held_close : (now c : ℕ) (s : ChargerState) (ss : List ChargerState) (xs : List Session) → is_finished s.status ≡ true → HeldFrom c (s ∷ ss) xs
      → HeldFrom (suc c) ss (close now s xs)
  unfolding HeldFrom
  held_close now c s ss xs f h j o =
      holds_close now c (suc c + j) s (get_or ss j empty) xs (λ e. omega arith) (held_head c s ss xs f h) (held_tail c s ss xs h j o)

  -- Q is kept when the session of a finished charger is closed, if it is one of the states ss, which stand at the places from c on
  abbrev pub ClosingKeeps : (List Session → Type 0) → ℕ → ℕ → List ChargerState → Type 0
  ClosingKeeps Q now c ss =
      (j : ℕ) (xs : List Session) → is_finished (get_or ss j empty).status ≡ true → Holds (c + j) (get_or ss j empty) xs → Q xs → Q (close now (get_or ss j empty) xs)

  -- so it is kept when the sessions of all finished chargers are
  pub closed_keeps : (Q : List Session → Type 0) (now c : ℕ) (ss : List ChargerState) (xs : List Session) → ClosingKeeps Q now c ss → HeldFrom c ss xs → Q xs → Q (closed now ss xs)
  closed_keeps Q now c [] xs k h q = q
  closed_keeps Q now c (s ∷ ss) xs k h q =
      let later : ClosingKeeps Q now (suc c) ss = λ j ys f o. k (suc j) ys f (rw (add-suc, ← suc-add) o) in
      by_test (λ (ys : List Session). Q (closed now ss ys)) (is_finished s.status)
      (λ f. closed_keeps Q now (suc c) ss (close now s xs) later (held_close now c s ss xs f h) (k 0 xs f (rw add-zero (held_head c s ss xs f h)) q))
      (λ f. closed_keeps Q now (suc c) ss xs later (held_tail c s ss xs h) q)

  -- what an open session keeps when it is closed, every session keeps
  pub closed_all : (P : Session → Type 0) (now c : ℕ) (ss : List ChargerState) (xs : List Session)
      → ((x : Session) (s : ChargerState) → x.outcome ≡ Open → P x → P (finalized now s x)) → HeldFrom c ss xs → All P xs → All P (closed now ss xs)
  closed_all P now c ss xs k =
      closed_keeps (All P) now c ss xs
      (λ j ys f h a.
      let s = get_or ss j empty in
      all_set ys s.session _ (k (get_or ys s.session missing) s h.is_open (all_at ys s.session missing h.inside a)) a)

  open_not_closed : (o : Outcome) → o ≡ Open → is_closed o ≡ false
  open_not_closed o h = rw h

  closed-kept : (now c : ℕ) (ss : List ChargerState) (xs : List Session) → HeldFrom c ss xs → Kept xs (closed now ss xs)
  closed-kept now c ss xs h =
      closed_keeps (Kept xs) now c ss xs (λ j ys f o k. kept_trans k (kept_set ys _ _ missing (open_not_closed _ o.is_open))) h (kept_refl xs)

  -- a car that is not finished still holds its session
  closed-holds : (now c i : ℕ) (r : ChargerState) (ss : List ChargerState) (xs : List Session) → HeldFrom c ss xs → Holds i r xs
      → ((j : ℕ) → is_finished (get_or ss j empty).status ≡ true → c + j ≢ i) → Holds i r (closed now ss xs)
  closed-holds now c i r ss xs h k ne = closed_keeps (Holds i r) now c ss xs (λ j ys f o. holds_close now (c + j) i (get_or ss j empty) r ys (ne j f) o) h k

  count_close : (test : ℕ → Bool) (xs : List Session) (i now : ℕ) (s : ChargerState) → count (has test) (set xs i (finalized now s (get_or xs i missing))) ≡ count (has test) xs
  unfolding finalized
  count_close test [] i now s = refl
  count_close test (x ∷ xs) zero now s = refl
  count_close test (x ∷ xs) (suc i) now s = rw (count_close test xs i now s)

  closed-count : (test : ℕ → Bool) (now c : ℕ) (ss : List ChargerState) (xs : List Session) → HeldFrom c ss xs → count (has test) (closed now ss xs) ≡ count (has test) xs
  closed-count test now c ss xs h =
      closed_keeps (λ ys. count (has test) ys ≡ count (has test) xs) now c ss xs (λ j ys f o e. count_close test ys _ now _ ∙ e) h refl

  finished_in : (c : ℕ) (ss : List ChargerState) (j : ℕ) → is_finished (get_or ss j empty).status ≡ true → In (c + j) (finished c ss)
  unfolding empty
  finished_in c [] j f = not_both false f refl
  finished_in c (s ∷ ss) zero f = rw (f, add-zero) (inl refl)
  finished_in c (s ∷ ss) (suc j) f = go (is_finished s.status) (rw (add-suc, ← suc-add) (finished_in (suc c) ss j f))
    where
      go : (b : Bool) → In (c + suc j) (finished (suc c) ss) → In (c + suc j) (cond b (c ∷ finished (suc c) ss) (finished (suc c) ss))
      go true k = inr k
      go false k = k

  pub from_start : (f : SiteState ChargerState) → HeldBut [] f → HeldFrom 0 f.places f.sessions
  unfolding HeldFrom HeldBut
  from_start f h j o = rw zero-add (⊎_elim (λ (n : ⊥). absurd n) (λ k. k) (h j o))

  -- a session that is closed keeps its vehicle and charger
  fitted_open : (now : ℕ) (x : Session) (s : ChargerState) → x.outcome ≡ Open → Fitted t x → Fitted t (finalized now s x)
  unfolding finalized
  fitted_open now x s o k h = k (rw o)

  -- closing the finished sessions
  pub progress-closed : (now : ℕ) (f : SiteState ChargerState) → HeldBut [] f → Progress t (steps t) f (with_closed t now f)
  progress-closed now f h =
      let held = from_start f h in
      record {
        pending = refl;
        queue = refl;
        free = λ c. refl;
        size = refl;
        vehicles = λ test. closed-count test now 0 f.places f.sessions held;
        kept = closed-kept now 0 f.places f.sessions held;
        fitted = closed_all (Fitted t) now 0 f.places f.sessions (fitted_open now) held;
      }

  pub held_closed : (now : ℕ) (f : SiteState ChargerState) → HeldBut [] f → HeldBut (finished 0 f.places) (with_closed t now f)
  unfolding HeldBut
  held_closed now f h c o = go (is_finished (get_or f.places c empty).status) refl
    where
      go : (b : Bool) → is_finished (get_or f.places c empty).status ≡ b
          → In c (finished 0 f.places) ⊎ Holds c (get_or f.places c empty) (closed now f.places f.sessions)
      go true e = inl (rw zero-add at (finished_in 0 f.places c e))
      go false e =
          inr
          (closed-holds now 0 c (get_or f.places c empty) f.places f.sessions (from_start f h)
          (⊎_elim (λ (n : ⊥). absurd n) (λ k. k) (h c o))
          (λ j d q.
          let at : j ≡ c = omega arith in
          not_both (is_finished (get_or f.places c empty).status) (rw at at d) e))

  -- ---- power and progress

  same_free_at : {ss ss' : List ChargerState} → SameCars ss ss' → (c : ℕ) → free_at t (steps t) ss' c ≡ free_at t (steps t) ss c
  same_free_at no-cars c = refl
  same_free_at (also-car s r) zero = s.free
  same_free_at (also-car s r) (suc c) = same_free_at r c

  pub held_charged : (f : SiteState ChargerState) → HeldBut [] f → HeldBut [] (powered t f)
  unfolding HeldBut
  held_charged f h c o =
      let same = same_charged t.limit t.curve f.places in
      let e = same_session same c in
      ⊎_elim inl
      (λ (k : Holds c (get_or f.places c empty) f.sessions). inr (record { inside = rw e k.inside; is_open = rw e k.is_open; there = rw e k.there }))
      (h c (sym (same_free same c) ∙ o))

  pub progress-charged : (f : SiteState ChargerState) → Progress t (steps t) f (powered t f)
  progress-charged f =
      let same = same_charged t.limit t.curve f.places in
      record {
        pending = refl;
        queue = refl;
        free = same_free_at same;
        size = same_size same;
        vehicles = λ test. refl;
        kept = kept_refl f.sessions;
        fitted = λ k. k;
      }

  -- at the start no car is there
  pub nothing_held : HeldBut [] (initial t (steps t))
  unfolding HeldBut
  nothing_held c o = not_both (is_free empty.status) empty_free (rw (free_at_lem (length t.chargers) c) at o)
    where
      free_at_lem : (n c : ℕ) → get_or (replicate n empty) c empty ≡ empty
      free_at_lem zero c = refl
      free_at_lem (suc n) zero = refl
      free_at_lem (suc n) (suc c) = free_at_lem n c

-- Freed chargers, from what the code finds out.
use Rattle.std.proofs.Common.{◌≡◌, ℕ, suc, ◌+◌, ◌<◌, ◌≤◌, ◌≢◌, Bool, true, false, cond, List, [], ◌∷◌, ◌++◌, length, get_or, take, set, sym, refl, ap, ◌∙◌, add-zero, add-suc, suc-add, zero-add, add-one, arith, set-set, length-set, length-take-le, get_or-set_other, take_all}
use Rattle.std.specs.Prelude.{Option, Some, None}
use lib.Seq.{take-suc}
use Rattle.fixed_vec.specs.FixedVec.{FixedVec}
use Rattle.charger.specs.declared.waiting_queue.WaitingQueue.{WaitingQueue}
use Rattle.charger.specs.First.{Found, nobody, found, first}
use Rattle.charger.specs.Code.Queue.{waiting, Taken}
use Rattle.charger.specs.Code.Vehicles.{listed}
use Rattle.charger.specs.Vehicle.{fits_at}
use Rattle.power.specs.declared.charger_state.ChargerState.{ChargerState}
use Rattle.engine.specs.declared.plug_in.State.{State}
use Rattle.engine.specs.declared.session.Session.{Session}
use Rattle.engine.specs.declared.site.Site.{Site}
use Rattle.engine.specs.declared.site.Simulation.{Simulation}
use Rattle.engine.specs.Plan.{Plan, row_at, fits}
use Rattle.engine.specs.SiteState.{SiteState, start_charging, freed, with_queue, passed_on, release}
use Rattle.power.specs.ChargerState.{is_finished, empty}
use Rattle.engine.specs.Timestep.{steps, closed, with_closed, finished, release_all, release_finished}
use Rattle.engine.specs.Code.Simulation.{connectors_of, pending, booked, plan_of}
use Rattle.engine.specs.Code.Steps.{held, Running, Changes, released_if}
use Rattle.engine.proofs.site.Simulations.{same_site}
use Rattle.engine.proofs.plug_in.Handling.{SmallFound, small_first}
use Rattle.engine.proofs.site.Handlers.{release_passes, release_frees}

-- ---- one charger, by what was popped off the queue

-- who takes a freed charger takes it as if it had not been cleared first
over_freed : (t : Plan) (time v c : ℕ) (rest : List ℕ) (f : SiteState ChargerState)
    → start_charging t (steps t) time v c (with_queue rest (freed t (steps t) c f)) ≡ start_charging t (steps t) time v c (with_queue rest f)
unfolding start_charging
over_freed t time v c rest f = rw set-set

-- the state with that queue
abbrev pub requeued : State → WaitingQueue → State
requeued s q = record { simulation = record { events = s.simulation.events; queue = q; sessions = s.simulation.sessions }; bank = s.bank }

module _ (site : Site) (time c : ℕ) (row : List Bool) (s : State) (q : WaitingQueue) (rowed : row ≡ row_at (connectors_of site) c) where
  abbrev Took : Option ℕ → Type 0
  Took o = Taken (first (fits_at row (listed site.vehicles)) (waiting s.simulation.queue)) (waiting s.simulation.queue) (waiting q) o

  searched_as : first (fits_at row (listed site.vehicles)) (waiting s.simulation.queue) ≡ first (λ w. fits (plan_of site) w c) (held s).queue
  unfolding fits
  searched_as = rw (← rowed)

  module _ (v : ℕ) (w : Took (Some v)) (f : Running site 0 s) where
    popped_small : SmallFound (found v (waiting q))
    popped_small = rw (sym w.found) at (small_first (fits_at row (listed site.vehicles)) f.room.waits)

    pub who_popped : v < 64
    who_popped = popped_small.0

    pub fit_requeued : Running site 1 (requeued s q)
    fit_requeued =
        record {
          within = f.within;
          room = record { account = omega (arith, f.room.account, w.shorter); kinds = f.room.kinds; coming = f.room.coming; waits = popped_small.1 };
          places = f.places;
        }

    pub releases_passing : {r : State} → Changes site (λ t. start_charging t (steps t) time v c) (requeued s q) r → Changes site (λ t. release t (steps t) time c) s r
    releases_passing d =
        record {
          state =
              d.state
              ∙ sym (over_freed (plan_of site) time v c (waiting q) (held s))
              ∙ sym (release_passes (plan_of site) (steps (plan_of site)) (held s) time c v (waiting q) (sym searched_as ∙ sym w.found));
          fit = d.fit;
          events = d.events;
        }

  pub releases_freeing : {r : State} → Took None → Running site 0 s → r.simulation ≡ (requeued s q).simulation → r.bank.items ≡ set s.bank.items c empty
      → Changes site (λ t. release t (steps t) time c) s r
  releases_freeing {r} w f sim stands =
      record {
        state =
            same_site
            (ap (λ (m : Simulation). pending m.events) sim)
            (ap (λ (m : Simulation). waiting m.queue) sim ∙ w.kept)
            stands
            (ap (λ (m : Simulation). booked m.sessions) sim)
            ∙ sym (release_frees (plan_of site) (steps (plan_of site)) (held s) time c (sym searched_as ∙ sym w.found));
        fit = record {
          within = f.within;
          room = rw sim (record { account = rw w.kept f.room.account; kinds = f.room.kinds; coming = f.room.coming; waits = rw w.kept f.room.waits });
          places = rw (stands, length-set) f.places;
        };
        events = ap (λ (m : Simulation). m.events) sim;
      }

module _ (site : Site) (time c : ℕ) {s r : State} (b : Bool) where
  pub released_so : b ≡ true → Changes site (λ t. release t (steps t) time c) s r → Changes site (released_if b time c) s r
  released_so e d = rw e d

pub unchanged : (site : Site) {s : State} → Running site 0 s → Changes site (λ t f. f) s s
unchanged site f = record { state = refl; fit = f; events = refl }

pub released_not : (site : Site) (time c : ℕ) {s : State} (b : Bool) → b ≡ false → Running site 0 s → Changes site (released_if b time c) s s
released_not site time c b e f = rw e (unchanged site f)

-- what stands at the other chargers stays
release_elsewhere : (p : Plan) (now c j : ℕ) (f : SiteState ChargerState) → j ≢ c → get_or (release p (steps p) now c f).places j empty ≡ get_or f.places j empty
unfolding start_charging
release_elsewhere p now c j f ne = go (first (λ w. fits p w c) f.queue)
  where
    go : (x : Found) → get_or (passed_on p (steps p) now c f x).places j empty ≡ get_or f.places j empty
    go nobody = get_or-set_other f.places c j empty empty ne
    go (found v rest) = get_or-set_other (set f.places c empty) c j _ empty ne ∙ get_or-set_other f.places c j empty empty ne

released_elsewhere : (p : Plan) (now c j : ℕ) (b : Bool) (f : SiteState ChargerState) → j ≢ c → get_or (released_if b now c p f).places j empty ≡ get_or f.places j empty
released_elsewhere p now c j true f ne = release_elsewhere p now c j f ne
released_elsewhere p now c j false f ne = refl

-- ---- all finished chargers, one after another

finished_snoc : (c : ℕ) (ss : List ChargerState) (s : ChargerState)
    → finished c (ss ++ (s ∷ [])) ≡ finished c ss ++ cond (is_finished s.status) ((c + length ss) ∷ []) []
finished_snoc c [] s = rw add-zero
finished_snoc c (x ∷ ss) s = rw (finished_snoc (suc c) ss s, add-suc, ← suc-add) (go (is_finished x.status))
  where
    go : (b : Bool)
        → cond b (c ∷ (finished (suc c) ss ++ cond (is_finished s.status) ((suc c + length ss) ∷ []) [])) (finished (suc c) ss ++ cond (is_finished s.status) ((suc c + length ss) ∷ []) [])
        ≡ cond b (c ∷ finished (suc c) ss) (finished (suc c) ss) ++ cond (is_finished s.status) ((suc c + length ss) ∷ []) []
    go true = refl
    go false = refl

release_append : (t : Plan) (now : ℕ) (cs ds : List ℕ) (f : SiteState ChargerState) → release_all t now (cs ++ ds) f ≡ release_all t now ds (release_all t now cs f)
release_append t now [] ds f = refl
release_append t now (c ∷ cs) ds f = release_append t now cs ds (release t (steps t) now c f)

release_one : (t : Plan) (now c : ℕ) (b : Bool) (f : SiteState ChargerState) → release_all t now (cond b (c ∷ []) []) f ≡ released_if b now c t f
release_one t now c true f = refl
release_one t now c false f = refl

-- the finished chargers below i are freed, and the others are as they were
pub record Releasing (site : Site) (time i : ℕ) (s r : State) : Type 0 where
  pub does : Changes site (λ t. release_all t time (finished 0 (take i s.bank.items))) s r
  pub rest : (j : ℕ) → i ≤ j → get_or r.bank.items j empty ≡ get_or s.bank.items j empty

module _ (site : Site) (time : ℕ) (s : State) where
  pub releasing_none : Running site 0 s → Releasing site time 0 s s
  releasing_none f = record { does = record { state = refl; fit = f; events = refl }; rest = λ j h. refl }

  pub releasing_more : {i : ℕ} {r r' : State} → i < length s.bank.items → Releasing site time i s r
      → Changes site (released_if (is_finished (get_or r.bank.items i empty).status) time i) r r'
      → Releasing site time (i + 1) s r'
  releasing_more {i} {r = r} h w d =
      let t = plan_of site in
      let b = is_finished (get_or s.bank.items i empty).status in
      let here : is_finished (get_or r.bank.items i empty).status ≡ b = ap (λ (x : ChargerState). is_finished x.status) (w.rest i (omega arith)) in
      let d : Changes site (released_if b time i) r _ = rw here at d in
      let split : finished 0 (take (i + 1) s.bank.items) ≡ finished 0 (take i s.bank.items) ++ cond b (i ∷ []) [] =
      rw (add-one, take-suc s.bank.items i empty h) (finished_snoc 0 (take i s.bank.items) (get_or s.bank.items i empty) ∙ rw (length-take-le i s.bank.items (omega arith), zero-add))
      in
      record {
        does =
            record {
              state =
                  d.state
                  ∙ ap (released_if b time i t) w.does.state
                  ∙ sym (release_one t time i b (release_all t time (finished 0 (take i s.bank.items)) (held s)))
                  ∙ sym (release_append t time (finished 0 (take i s.bank.items)) (cond b (i ∷ []) []) (held s))
                  ∙ ap (λ (cs : List ℕ). release_all t time cs (held s)) (sym split);
              fit = d.fit;
              events = d.events ∙ w.does.events;
            };
        rest = λ j l.
            ap (λ (f : SiteState ChargerState). get_or f.places j empty) d.state
            ∙ released_elsewhere t time i j b (held r) (λ (e : j ≡ i). omega arith)
            ∙ w.rest j (omega arith);
      }

  pub releasing_all : {i : ℕ} {r : State} → length s.bank.items ≤ i → Releasing site time i s r → Changes site (λ t. release_finished t time) s r
  releasing_all {i} h w =
      let d = rw (take_all i s.bank.items h) at w.does in
      record { state = d.state; fit = d.fit; events = d.events }

-- ---- with the sessions closed before

-- the state with those sessions
abbrev pub resessioned : State → FixedVec Session → State
resessioned s xs = record { simulation = record { events = s.simulation.events; queue = s.simulation.queue; sessions = xs }; bank = s.bank }

module _ (site : Site) (time : ℕ) (s : State) (xs : FixedVec Session) (w : xs.items ≡ closed time s.bank.items (booked s.simulation.sessions)) where
  pub fit_closed : length xs.items ≡ length (booked s.simulation.sessions) → Running site 0 s → Running site 0 (resessioned s xs)
  fit_closed e f =
      record {
        within = f.within;
        room = record { account = rw e f.room.account; kinds = f.room.kinds; coming = f.room.coming; waits = f.room.waits };
        places = f.places;
      }

  pub closes_and_frees : {r : State} → Changes site (λ t. release_finished t time) (resessioned s xs) r
      → Changes site (λ t f. release_finished t time (with_closed t time f)) s r
  closes_and_frees d =
      let same : held (resessioned s xs) ≡ with_closed (plan_of site) time (held s) = same_site refl refl refl w in
      record {
        state = d.state ∙ ap (release_finished (plan_of site) time) same;
        fit = d.fit;
        events = d.events;
      }

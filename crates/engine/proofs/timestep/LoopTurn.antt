-- A turn of the run's loop: the rounds up to the next event or the first finished charger, at once.
use Rattle.std.proofs.Common.{◌≡◌, ℕ, zero, suc, ◌+◌, ◌-◌, ◌<◌, ◌≤◌, Bool, true, false, cond, ◌&&◌, leb, List, [], ◌∷◌, length, sym, refl, ap, ◌∙◌, subst, arith, leb-false, leb-true}
use Rattle.fixed_vec.specs.FixedVec.{FixedVec}
use Rattle.curve.specs.declared.points.Point.{Point}
use Rattle.power.specs.declared.charger_state.ChargerState.{ChargerState}
use Rattle.engine.specs.declared.events.Event.{Event}
use Rattle.power.specs.declared.power.Spun as D
use Rattle.power.specs.declared.power.Limit.{Limit}
use Rattle.engine.specs.declared.site.Site.{Site}
use Rattle.engine.specs.declared.plug_in.State.{State as Stands}
use Rattle.charger.specs.Code.Profiles.{curve_at}
use Rattle.engine.specs.Plan.{Plan}
use Rattle.engine.specs.SiteState.{SiteState, is_empty}
use Rattle.power.specs.Power.{charge}
use Rattle.power.specs.Code.Rounds.{any_finished, Spun, spin}
use Rattle.engine.specs.Timestep.{State, due, with_closed, release_finished, round, ended, after}
use Rattle.power.specs.ChargerState.{all_free}
use Rattle.power.specs.Code.Bank.{spun}
use Rattle.engine.specs.Code.Simulation.{pending, plan_of}
use Rattle.engine.specs.Code.Events.{is_due, next_time}
use Rattle.engine.specs.Code.Steps.{held, Running, Changes, step_state, GoesOn}
use Rattle.power.proofs.power.SameCars.{same_size, same_charged}
use Rattle.engine.proofs.timestep.Units.{free_closed, free_finished_lem, goes_on}
use Rattle.power.proofs.charger_state.Vacant.{and_left, and_right, free_charge}
use Rattle.engine.proofs.timestep.Quiet.{NoneDue, landed, Landed, spin_lands}
use Rattle.engine.proofs.timestep.DueFirst.{round_handled, after_handled}

-- ---- how many rounds a spin takes

module _ (limit : Limit) (curve : ℕ → List Point) where
  spin-least : (done k : ℕ) (ss : List ChargerState) → done ≤ (spin limit curve done k ss).rounds
  spin-least done zero ss = omega arith
  spin-least done (suc k) ss = go (any_finished false (charge limit curve ss)) (spin-least (done + 1) k (charge limit curve ss))
    where
      go : (b : Bool) → done + 1 ≤ (spin limit curve (done + 1) k (charge limit curve ss)).rounds
          → done ≤ (cond b (record { states = charge limit curve ss; rounds = done + 1; any = true }) (spin limit curve (done + 1) k (charge limit curve ss))).rounds
      go true h = omega arith
      go false h = omega arith

  spin_some : (done k : ℕ) (ss : List ChargerState) → 0 < k → done < (spin limit curve done k ss).rounds
  spin_some done zero ss h = absurd (omega arith)
  spin_some done (suc k) ss h = go (any_finished false (charge limit curve ss)) (spin-least (done + 1) k (charge limit curve ss))
    where
      go : (b : Bool) → done + 1 ≤ (spin limit curve (done + 1) k (charge limit curve ss)).rounds
          → done < (cond b (record { states = charge limit curve ss; rounds = done + 1; any = true }) (spin limit curve (done + 1) k (charge limit curve ss))).rounds
      go true h = omega arith
      go false h = omega arith

  spin_most : (done k : ℕ) (ss : List ChargerState) → (spin limit curve done k ss).rounds ≤ done + k
  spin_most done zero ss = omega arith
  spin_most done (suc k) ss = go (any_finished false (charge limit curve ss)) (spin_most (done + 1) k (charge limit curve ss))
    where
      go : (b : Bool) → (spin limit curve (done + 1) k (charge limit curve ss)).rounds ≤ done + 1 + k
          → (cond b (record { states = charge limit curve ss; rounds = done + 1; any = true }) (spin limit curve (done + 1) k (charge limit curve ss))).rounds ≤ done + suc k
      go true h = omega arith
      go false h = omega arith

  spin_size : (done k : ℕ) (ss : List ChargerState) → length (spin limit curve done k ss).states ≡ length ss
  spin_size done zero ss = refl
  spin_size done (suc k) ss = go (any_finished false (charge limit curve ss)) (spin_size (done + 1) k (charge limit curve ss)) (same_size (same_charged limit curve ss))
    where
      go : (b : Bool) → length (spin limit curve (done + 1) k (charge limit curve ss)).states ≡ length (charge limit curve ss) → length (charge limit curve ss) ≡ length ss
          → length (cond b (record { states = charge limit curve ss; rounds = done + 1; any = true }) (spin limit curve (done + 1) k (charge limit curve ss))).states ≡ length ss
      go true h e = e
      go false h e = h ∙ e

-- ---- up to the next event none is due

pub record Next (now last next : ℕ) (es : List Event) : Type 0 where
  pub later : now < next
  pub within : next ≤ last
  pub none_due : NoneDue next es

pub next_event : (now last : ℕ) (es : List Event) → now < last → NoneDue (now + 1) es → Next now last (next_time last es) es
next_event now last [] h q = record { later = h; within = omega arith; none_due = tt }
next_event now last (e ∷ es) h q = go (leb e.time last) refl
  where
    go : (b : Bool) → leb e.time last ≡ b → Next now last (cond b e.time last) (e ∷ es)
    go true k = record { later = omega arith; within = leb-true e.time last k; none_due = omega arith }
    go false k = record { later = h; within = omega arith; none_due = omega (arith, leb-false e.time last k) }

none_due : (now : ℕ) (es : List Event) → is_due now es ≡ false → NoneDue (now + 1) es
none_due now [] h = tt
none_due now (e ∷ es) h = omega (arith, leb-false e.time now h)

pub next_quiet : (now last next : ℕ) (es : List Event) → now < last → is_due now es ≡ false → next ≡ next_time last es → Next now last next es
next_quiet now last next es h q e = rw e (next_event now last es h (none_due now es q))

-- so many rounds take some time, and end in time
pub counted : (limit : Limit) (curve : ℕ → List Point) (ss : List ChargerState) (now last next m : ℕ) {es : List Event} → Next now last next es
    → m ≡ (spin limit curve 0 (next - now) ss).rounds → (0 < m) × (now + m ≤ last)
counted limit curve ss now last next m x e =
    let some = spin_some limit curve 0 (next - now) ss (omega (arith, x.later)) in
    let most = spin_most limit curve 0 (next - now) ss in
    (omega arith, omega (arith, x.later, x.within))

module _ (t : Plan) where
  abbrev pub at : SiteState ChargerState → ℕ → State
  at f now = record { site = f; time = now }

  -- ---- after the events due nothing is left to come: the round still counts

  quiet : (now : ℕ) (g : SiteState ChargerState) → is_empty g.pending ≡ true → all_free g.places ≡ true → round t (at g now) ≡ at g (now + 1)
  unfolding round
  quiet now g e free =
      let not_due : due t now g.pending g ≡ g = go g.pending e in
      rw (not_due, free_charge t.limit t.curve g.places free, free_closed t now g.places g.sessions free, free_finished_lem t 0 g.places free)
    where
      go : (es : List Event) → is_empty es ≡ true → due t now es g ≡ g
      go [] h = refl
      go (x ∷ es) h = absurd (let n : ◌≡◌ {A = ℕ} 0 1 = cc in omega arith)

  module _ (now last : ℕ) (f g : SiteState ChargerState) (before : now < last) (going : ended t (at f now) ≡ false) (is-due : g ≡ due t now f.pending f) where
    pub last_round : ended t (at g now) ≡ true → after t (last - now) (at f now) ≡ after t (last - (now + 1)) (at g (now + 1))
    last_round h =
        let one : last - now ≡ suc (last - (now + 1)) = omega arith in
        let d = due t now f.pending f in
        let over : ended t (at d now) ≡ true = rw is-due at h in
        let still : round t (at f now) ≡ at g (now + 1) =
        sym (round_handled t (at f now))
        ∙ quiet now d (and_left (is_empty d.pending) (all_free d.places && is_empty d.queue) over)
        (and_left (all_free d.places) (is_empty d.queue) (and_right (is_empty d.pending) (all_free d.places && is_empty d.queue) over))
        ∙ ap (λ (x : SiteState ChargerState). at x (now + 1)) (sym is-due)
        in
        rw one (goes_on t (last - (now + 1)) (at f now) going ∙ ap (after t (last - (now + 1))) still)

    -- else the run goes on behind them
    pub handled_first : ended t (at g now) ≡ false → after t (last - now) (at f now) ≡ after t (last - now) (at g now)
    handled_first o =
        let one : last - now ≡ suc (last - now - 1) = omega arith in
        rw one (after_handled t (last - now - 1) (at f now) going (rw is-due at o) ∙ ap (λ (y : SiteState ChargerState). after t (suc (last - now - 1)) (at y now)) (sym is-due))

-- ---- with no event due the rounds spin on

-- the state with those chargers
abbrev pub rebanked : Stands → FixedVec ChargerState → Stands
rebanked s b = record { simulation = s.simulation; bank = b }

rebanked_as : (s t : Stands) → t.simulation ≡ s.simulation → rebanked s t.bank ≡ t
rebanked_as s t e = λ i. record { simulation = sym e i; bank = t.bank }

module _ (site : Site) (now last next : ℕ) (s t : Stands) (rest : t.simulation ≡ s.simulation) (r : D.Spun)
    (before : now < last) (none : is_due now (pending s.simulation.events) ≡ false)
    (going : ended (plan_of site) (step_state s now) ≡ false)
    (upto : next ≡ next_time last (pending s.simulation.events))
    (turns : spun t.bank.items r ≡ spin site.limit (curve_at site.curves site.lens) 0 (next - now) s.bank.items) where
  abbrev plan : Plan
  plan = plan_of site

  reaches : Next now last next (pending s.simulation.events)
  reaches = next_quiet now last next (pending s.simulation.events) before none upto

  numbers : (0 < r.rounds) × (now + r.rounds ≤ last)
  numbers = counted site.limit (curve_at site.curves site.lens) s.bank.items now last next r.rounds reaches (ap (λ (p : Spun). p.rounds) turns)

  spent : after plan (last - now) (step_state s now)
      ≡ after plan (last - (now + r.rounds)) (landed plan r.rounds (spun t.bank.items r) (step_state s now))
  spent =
      let until : now + (next - now) ≡ next = omega (arith, reaches.later) in
      let l : Landed plan (last - (now + r.rounds)) 0 (step_state s now) (spun t.bank.items r) =
      rw turns (spin_lands plan (next - now) (last - (now + r.rounds)) 0 (step_state s now) going (rw until reaches.none_due)) in
      let as_many : l.rounds ≡ r.rounds = omega (arith, l.counted) in
      let whole : last - now ≡ r.rounds + (last - (now + r.rounds)) = omega (arith, numbers.1) in
      rw whole (rw as_many at l.lands)

  same-size : length t.bank.items ≡ length s.bank.items
  same-size = ap (λ (p : Spun). length p.states) turns ∙ spin_size site.limit (curve_at site.curves site.lens) 0 (next - now) s.bank.items

  pub fit_spun : Running site 0 s → Running site 0 t
  fit_spun f = subst (Running site 0) (rebanked_as s t rest) (record { within = f.within; room = f.room; places = same-size ∙ f.places })

  pub went_on : r.any ≡ false → Running site 0 s → GoesOn site last now s (now + r.rounds) t
  went_on h f =
      let on : after plan (last - (now + r.rounds)) (landed plan r.rounds (spun t.bank.items r) (step_state s now)) ≡ after plan (last - (now + r.rounds)) (step_state (rebanked s t.bank) (now + r.rounds)) = rw h in
      record {
        later = omega (arith, numbers.0);
        within = numbers.1;
        fit = fit_spun f;
        same = spent ∙ on ∙ ap (λ (u : Stands). after plan (last - (now + r.rounds)) (step_state u (now + r.rounds))) (rebanked_as s t rest);
      }

  pub went_freeing : {x : Stands} → r.any ≡ true
      → Changes site (λ t f. release_finished t (now + r.rounds - 1) (with_closed t (now + r.rounds - 1) f)) t x
      → GoesOn site last now s (now + r.rounds) x
  went_freeing h d =
      let d = rw (sym (rebanked_as s t rest)) at d in
      record {
        later = omega (arith, numbers.0);
        within = numbers.1;
        fit = d.fit;
        same = spent ∙ rw h (ap (λ (f : SiteState ChargerState). after plan (last - (now + r.rounds)) (at plan f (now + r.rounds))) (sym d.state));
      }

-- ---- behind the events due

module _ (site : Site) (now last : ℕ) (s r : Stands)
    (before : now < last) (going : ended (plan_of site) (step_state s now) ≡ false)
    (is-due : held r ≡ due (plan_of site) now (pending s.simulation.events) (held s)) where
  pub went_last : ended (plan_of site) (step_state r now) ≡ true → Running site 0 r → GoesOn site last now s (now + 1) r
  went_last over f =
      record {
        later = omega arith;
        within = omega arith;
        fit = f;
        same = last_round (plan_of site) now last (held s) (held r) before going is-due over;
      }

  pub went_through : {then : ℕ} {x : Stands} → ended (plan_of site) (step_state r now) ≡ false → GoesOn site last now r then x → GoesOn site last now s then x
  went_through on w =
      record {
        later = w.later;
        within = w.within;
        fit = w.fit;
        same = handled_first (plan_of site) now last (held s) (held r) before going is-due on ∙ w.same;
      }

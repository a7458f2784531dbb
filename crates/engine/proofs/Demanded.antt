-- Demand 3 holds of every run, by events and by steps, for every plan and every allowance.
use Rattle.std.proofs.Common.{◌≡◌, ℕ, ◌+◌, ◌<◌, Bool, true, false, ◌⊎◌, List, [], ◌∷◌, length, sym, refl, ap, ◌∙◌, ⊎_elim, arith}
use Rattle.charger.specs.Lists.{All}
use Rattle.charger.proofs.Lists.{all_map}
use Rattle.engine.specs.declared.events.Event.{Event}
use Rattle.engine.specs.Plan.{Plan, fits}
use Rattle.engine.specs.SiteState.{Engine, SiteState, is_empty, free_at}
use Rattle.engine.specs.Discrete as D
use Rattle.engine.specs.Timestep as T
use Rattle.engine.specs.Demand.{Kept, by_events, by_steps, FreeKnown, Demand, EventDemand, StepDemand}
use Rattle.engine.proofs.site.Laws.{Settled}
use Rattle.engine.proofs.discrete.EventLaws as E
use Rattle.engine.proofs.discrete.NoneQueued.{none_queued}
use Rattle.engine.proofs.timestep.RunMoves as R
use Rattle.engine.proofs.timestep.Units as N
use Rattle.engine.proofs.discrete.LastCar.{free_by_events_lem}
use Rattle.engine.proofs.timestep.Opened.{free_by_steps_lem, none_open_at_end}
use Rattle.engine.proofs.site.Waits.{waited_by_events, waited_by_steps}

pub is_empty_lem : {B : Type 0} (l : List B) → is_empty l ≡ true → l ≡ []
is_empty_lem [] h = refl
is_empty_lem (x ∷ l) h = let z : ◌≡◌ {A = ℕ} 0 1 = cc in absurd (omega arith)

empty_is : {B : Type 0} (l : List B) → l ≡ [] → is_empty l ≡ true
empty_is l h = rw h

-- used at most n, and then all or ended: so fewer only where ended
fewer_of : {E : Type 0} {n used : ℕ} → E ⊎ (used ≡ n) → used < n → E
fewer_of o l = ⊎_elim (λ e. e) (λ q. absurd (omega arith)) o

-- a vehicle is queued only if no charger fits that the engine takes for free, so if none does that is free by its history
no_free_fits_of : (p : Plan) {A : Type 0} (g : Engine A) (f : SiteState A) (free : ℕ → Bool) → ((c : ℕ) → c < length p.chargers → free c ≡ free_at p g f.places c)
    → Settled p g f → (c : ℕ) → c < length p.chargers → free c ≡ true → All (λ v. fits p v c ≡ false) f.queue
unfolding Settled
no_free_fits_of p g f free same s c l h = all_map (λ v stuck. stuck c l (sym (same c l) ∙ h)) s

module _ (p : Plan) (n : ℕ) where
  -- ---- by events

  pub by_events_lem : Demand p n (by_events p n)
  unfolding E.Used
  by_events_lem =
      let known : FreeKnown p (by_events p n) = λ c l. free_by_events_lem p c l n in
      record {
        units = ((E.used p n).0, λ l. empty_is _ (fewer_of (E.used p n).1 l));
        free_known = known;
        no_free_fits = no_free_fits_of p (D.events p) (D.run p n).site _ known (E.settled p n);
        one_spot = E.one_spot p n;
        add_up = E.counts p n;
        waits = waited_by_events p n;
      }

  pub kept_by_events : (k : ℕ) → Kept (by_events p n).sessions (by_events p (n + k)).sessions
  kept_by_events = E.kept p n

  pub event_demand : EventDemand p n (by_events p n)
  event_demand =
      record {
        handled = E.all_events p n;
        ends = (
          λ h. empty_is _ (E.enough p n h),
          λ h. omega (arith, E.all_events p n, ap (length {A = Event}) (is_empty_lem (D.run p n).site.pending h)),
          λ h. ap (length {A = ℕ}) (none_queued p n (is_empty_lem _ h)),
        );
      }

  -- ---- by steps

  pub by_steps_lem : Demand p n (by_steps p n)
  unfolding N.Used
  by_steps_lem =
      let known : FreeKnown p (by_steps p n) = λ c l. free_by_steps_lem p n c l in
      record {
        units = ((N.used p n).0, λ l. fewer_of (N.used p n).1 l);
        free_known = known;
        no_free_fits = no_free_fits_of p (T.steps p) (T.run p n).site _ known (R.settled p n);
        one_spot = R.one_spot p n;
        add_up = R.counts p n;
        waits = waited_by_steps p n;
      }

  pub kept_by_steps : (k : ℕ) → Kept (by_steps p n).sessions (by_steps p (n + k)).sessions
  kept_by_steps = R.kept p n

  pub step_demand : StepDemand (by_steps p n)
  step_demand = record { ends = none_open_at_end p n }

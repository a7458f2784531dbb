-- Two plans that differ in the site limit and in the queue places alone, and agree on who balks: their runs by events are alike, and
-- with the same limit their runs by steps.
use Rattle.std.proofs.Common.{◌≡◌, ℕ, zero, suc, ◌+◌, Bool, cond, leb, List, [], ◌∷◌, length, refl, ap, ◌∙◌}
use mathlib.Core.Path.{fun_ext}
use Rattle.charger.specs.First.{Found, nobody, found, first}
use Rattle.power.specs.declared.charger_state.ChargerState.{ChargerState}
use Rattle.engine.specs.declared.events.Event.{Event}
use Rattle.engine.specs.declared.events.EventType.{EventType}
use Rattle.engine.specs.declared.events.EventType.TheVariants.{Arrival, Renege, Unplug}
use Rattle.engine.specs.Plan.{Plan, fits, rated, output, stay}
use Rattle.engine.specs.SiteState.{Engine, SiteState, below, balks, with_pending, start_charging, free_at, available, arrived, passed_on, handle, popped, release}
use Rattle.engine.specs.Discrete as D
use Rattle.engine.specs.Discrete.{Occupant, events, charged_session}
use Rattle.engine.specs.Timestep as T
use Rattle.engine.specs.Timestep.{steps}
use Rattle.engine.specs.Demand as E
use Rattle.power.specs.declared.power.Limit.{Limit}

-- a stop, by what the engine takes for free
abbrev taken_free : E.Stop → (ℕ → Bool) → E.Stop
taken_free s vacant =
    record { used = s.used; ended = s.ended; pending = s.pending; queue = s.queue; sessions = s.sessions; free = s.free; vacant = vacant }

-- the same balk test
abbrev pub SameTest : Plan → List ℕ → Type 0
SameTest p places = (v : ℕ) (queue : List ℕ) → balks p.vehicles places v queue ≡ balks p.vehicles p.queue_places v queue

module _ (p : Plan) (limit : Limit) (places : List ℕ) (test : SameTest p places) where
  abbrev pub other : Plan
  other = record p { limit = limit; queue_places = places }

  -- ---- an event, by either engine

  module _ {A : Type 0} (g : Engine A) where
    same_free : (l : List A) (c : ℕ) → free_at other g l c ≡ free_at p g l c
    same_free [] c = refl
    same_free (x ∷ l) zero = refl
    same_free (x ∷ l) (suc c) = same_free l c

    same_arrived : (now v : ℕ) (f : SiteState A) (x : Found) → arrived other g now v f x ≡ arrived p g now v f x
    unfolding start_charging
    same_arrived now v f nobody = rw (test v f.queue)
    same_arrived now v f (found c rest) = refl

    same_passed : (now c : ℕ) (f : SiteState A) (x : Found) → passed_on other g now c f x ≡ passed_on p g now c f x
    unfolding start_charging
    same_passed now c f nobody = refl
    same_passed now c f (found v rest) = refl

    same_release : (now c : ℕ) (f : SiteState A) → release other g now c f ≡ release p g now c f
    unfolding fits
    same_release now c f = same_passed now c f (first (λ w. fits p w c) f.queue)

    same_handle : (k : EventType) (now v c : ℕ) (f : SiteState A) → handle other g k now v c f ≡ handle p g k now v c f
    unfolding fits
    same_handle Arrival now v c f =
        let same : available other g f v ≡ available p g f v = fun_ext (λ d. rw (same_free f.places d)) in
        rw same (same_arrived now v f (first (available p g f v) (below (length p.chargers))))
    same_handle Renege now v c f = refl
    same_handle Unplug now v c f = same_release now c f

  -- ---- by events

  same_step : (s : D.State) → D.step other s ≡ D.step p s
  unfolding D.step charged_session stay output rated
  same_step s = go s.site.pending
    where
      go : (l : List Event) → D.pop_first other l s ≡ D.pop_first p l s
      go [] = refl
      go (e ∷ es) =
          ap (λ (f : SiteState Occupant). record { site = f; handled = s.handled + 1 }) (same_handle (events p) e.kind e.time e.vehicle e.charger (with_pending es s.site))

  same_events : (n : ℕ) (s : D.State) → D.after other n s ≡ D.after p n s
  same_events zero s = refl
  same_events (suc n) s = same_events n (D.step other s) ∙ ap (D.after p n) (same_step s)

  same_stop : (s : D.State) → E.stop_at other s ≡ E.stop_at p s
  unfolding charged_session stay output rated
  same_stop s = ap (taken_free (E.stop_at p s)) (fun_ext (same_free (events p) s.site.places))

  pub alike_by_events : (n : ℕ) → E.by_events other n ≡ E.by_events p n
  alike_by_events n = same_stop (D.run other n) ∙ ap (E.stop_at p) (same_events n (D.start p))

module _ (p : Plan) (places : List ℕ) (test : SameTest p places) where
  abbrev q' : Plan
  q' = other p p.limit places test

  -- ---- by steps

  same_due : (now : ℕ) (es : List Event) (f : SiteState ChargerState) → T.due q' now es f ≡ T.due p now es f
  unfolding rated
  same_due now [] f = refl
  same_due now (e ∷ es) f =
      let one = same_handle p p.limit places test (steps p) e.kind e.time e.vehicle e.charger (with_pending es f) in
      ap (λ (h : SiteState ChargerState). cond (leb e.time now) h f) (same_due now es (popped q' (steps q') e es f) ∙ ap (T.due p now es) one)

  same_all : (now : ℕ) (cs : List ℕ) (f : SiteState ChargerState) → T.release_all q' now cs f ≡ T.release_all p now cs f
  unfolding rated
  same_all now [] f = refl
  same_all now (c ∷ cs) f = same_all now cs (release q' (steps q') now c f) ∙ ap (T.release_all p now cs) (same_release p p.limit places test (steps p) now c f)

  same_round : (s : T.State) → T.round q' s ≡ T.round p s
  unfolding T.round
  same_round s =
      let now = s.time in
      let after : SiteState ChargerState → SiteState ChargerState = λ f. T.with_closed p now (T.powered p f) in
      let f = after (T.due q' now s.site.pending s.site) in
      ap (λ (h : SiteState ChargerState). record { site = h; time = now + 1 })
      (same_all now (T.finished 0 f.places) f ∙ ap (λ (h : SiteState ChargerState). T.release_finished p now (after h)) (same_due now s.site.pending s.site))

  same_steps : (n : ℕ) (s : T.State) → T.after q' n s ≡ T.after p n s
  same_steps zero s = refl
  same_steps (suc n) s = ap (λ (t : T.State). cond (T.ended p s) s t) (same_steps n (T.round q' s) ∙ ap (T.after p n) (same_round s))

  same_step_stop : (s : T.State) → E.step_stop_at q' s ≡ E.step_stop_at p s
  unfolding rated
  same_step_stop s = ap (taken_free (E.step_stop_at p s)) (fun_ext (same_free p p.limit places test (steps p) s.site.places))

  pub alike_by_steps : (n : ℕ) → E.by_steps q' n ≡ E.by_steps p n
  alike_by_steps n = same_step_stop (T.run q' n) ∙ ap (E.step_stop_at p) (same_steps n (T.start p))

-- In a run by steps the pending events stand in order: none is pushed once the run has begun, and each round pops the least.
use Rattle.std.proofs.Common.{◌≡◌, ℕ, List, [], ◌∷◌, sym, refl, ◌∙◌, subst}
use Rattle.charger.specs.Lists.{none}
use Rattle.engine.specs.declared.events.EventType.TheVariants.{Unplug}
use Rattle.power.specs.declared.charger_state.ChargerState.{ChargerState}
use Rattle.engine.specs.Plan.{Plan}
use Rattle.engine.specs.Events.{Ordered, empty}
use Rattle.engine.specs.SiteState.{SiteState, with_pending, release}
use Rattle.engine.specs.Timestep.{steps, finished, powered, with_closed, release_all, run}
use Rattle.engine.proofs.events.Order.{ordered_tail, ordered_generate}
use Rattle.engine.proofs.timestep.RunMoves.{pending_popped, Keeps, run_keeps}

module _ (p : Plan) where
  pending_released : (now : ℕ) (cs : List ℕ) (f : SiteState ChargerState) → (release_all p now cs f).pending ≡ f.pending
  pending_released now [] f = refl
  pending_released now (c ∷ cs) f = pending_released now cs (release p (steps p) now c f) ∙ pending_popped p Unplug now 0 c f

  keeps : Keeps p (λ now f. Ordered f.pending)
  keeps =
      record {
        pops = λ now e es f l due h. subst Ordered (sym (pending_popped p e.kind e.time e.vehicle e.charger (with_pending es f))) (ordered_tail (subst Ordered l h));
        ends = λ now f held h. let g = with_closed p now (powered p f) in subst Ordered (sym (pending_released now (finished 0 g.places) g)) h;
      }

  pub ordered : (n : ℕ) → Ordered (run p n).site.pending
  ordered n = run_keeps p keeps n (ordered_generate 0 p.vehicles (empty, none))

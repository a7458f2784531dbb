-- A state that a run by events reaches is ready for a step: what the run's laws give to its code.
use Rattle.std.proofs.Common.{◌≡◌, ℕ, ◌+◌, ◌*◌, ◌≤◌, List, [], ◌∷◌, length, sym, refl, ap, ◌∙◌, subst, arith}
use Rattle.std.specs.Prelude.{Some, None}
use Rattle.charger.specs.Lists.{count, All}
use Rattle.charger.specs.Code.Queue.{waiting}
use Rattle.charger.proofs.Lists.{all_map}
use Rattle.engine.specs.declared.discrete.State.{State}
use Rattle.engine.specs.declared.events.Event.{Event}
use Rattle.engine.specs.declared.session.Session.{Session}
use Rattle.engine.specs.Plan.{Plan}
use Rattle.engine.specs.Events.{Ordered}
use Rattle.engine.specs.SiteState.{handle}
use Rattle.engine.specs.Discrete as D
use Rattle.engine.specs.Discrete.{events, run, step}
use Rattle.engine.specs.Demand.{has, anyone, yet_to_arrive, sessions_with}
use Rattle.engine.specs.Code.Events.{Queued, Pops}
use Rattle.engine.specs.Code.Simulation.{pending, booked, model, InTime, Becomes, Ready}
use Rattle.engine.proofs.site.Laws.{outcomes, length_places}
use Rattle.engine.proofs.discrete.EventLaws.{counts, all_events, times, run_moves, run_step, stopped}
use Rattle.engine.proofs.discrete.EventStates.{behind, stepped}
use Rattle.engine.proofs.discrete.InOrder.{ordered}

count_sessions : (l : List Session) → count (has anyone) l ≡ length l
count_sessions [] = refl
count_sessions (x ∷ l) = omega (arith, count_sessions l)

module _ (p : Plan) (s : State) (i : ℕ) (same : model s ≡ run p i) where
  spread : yet_to_arrive (model s).site.pending + length (waiting s.simulation.queue)
      + (sessions_with 0 (model s).site.sessions + sessions_with 1 (model s).site.sessions + sessions_with 2 (model s).site.sessions + sessions_with 3 (model s).site.sessions)
      ≡ length p.vehicles
  spread = rw (← same) at (counts p i)

  all-handled : s.simulation.events.handled + length (pending s.simulation.events) ≡ 2 * length p.vehicles + sessions_with 1 (model s).site.sessions
  all-handled = rw (← same) at (all_events p i)

  length-booked : sessions_with 0 (model s).site.sessions + sessions_with 1 (model s).site.sessions + sessions_with 2 (model s).site.sessions + sessions_with 3 (model s).site.sessions
      ≡ length (booked s.simulation.sessions)
  length-booked = sym (outcomes (booked s.simulation.sessions)) ∙ count_sessions (booked s.simulation.sessions)

  pub ready : length p.vehicles ≤ 64 → All InTime p.vehicles → Ready s.simulation
  ready few fit =
      record {
        room = record { events = omega (arith, spread, all-handled); sessions = omega (arith, spread, length-booked) };
        times =
            all_map
            (λ e b. omega (arith, b, spread, all-handled))
            (rw (← same) at (times p i (all_map (λ x f. omega (arith, f)) fit)));
      }

  -- every charger has its place
  pub full : length s.places.items ≡ length p.chargers
  full = ap (λ (m : D.State). length m.site.places) same ∙ length_places p (events p) (run_moves p i)

  -- the pending events stand in order, as the model's do
  pub in_order : Ordered (pending s.simulation.events)
  in_order = subst (λ (m : D.State). Ordered m.site.pending) (sym same) (ordered p i)

  -- where none was left, what is still allowed changes nothing
  module _ (q : Queued) (none : Pops s.simulation.events q None) where
    pub at_end : (k : ℕ) → i ≤ k → model (behind s q) ≡ run p k
    at_end k within = rw none.1 (same ∙ sym (stopped p i k within (ap (λ (m : D.State). m.site.pending) (sym same) ∙ none.0)))

    pub in_order_end : Ordered (pending q)
    in_order_end = rw none.1 in_order

  -- one event more
  pub one_more : (e : Event) (q : Queued) (popped : Pops s.simulation.events q (Some e)) {r : State}
      → Becomes (handle p (events p) e.kind e.time e.vehicle e.charger) (behind s q) r → model r ≡ run p (i + 1)
  one_more e q popped b = stepped s e q popped p b ∙ ap (step p) same ∙ sym (run_step p i)

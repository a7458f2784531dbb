-- The start of a run by steps.
use Rattle.std.proofs.Common.{◌≡◌, ◌≤◌, [], length, replicate, refl, ap, arith}
use lib.ListN.{length-replicate}
use Rattle.fixed_vec.specs.FixedVec.{FixedVec}
use Rattle.charger.specs.Lists.{none}
use Rattle.charger.specs.Code.Vehicles.{listed}
use Rattle.power.specs.declared.charger_state.ChargerState.{ChargerState}
use Rattle.power.specs.ChargerState.{empty}
use Rattle.engine.specs.declared.plug_in.State.{State}
use Rattle.engine.specs.declared.site.Site.{Site}
use Rattle.engine.specs.declared.site.Simulation.{Simulation}
use Rattle.engine.specs.SiteState.{SiteState}
use Rattle.engine.specs.Timestep.{steps, start}
use Rattle.engine.specs.Code.Simulation.{plan_of, AtStart}
use Rattle.engine.specs.Code.Steps.{SiteWithin, Running, step_state}
use Rattle.engine.proofs.site.Moves as M
use Rattle.engine.proofs.site.Laws as L
use Rattle.engine.proofs.site.Handlers.{starts}
use Rattle.engine.proofs.timestep.RunMoves.{lawful}
use Rattle.engine.proofs.timestep.LoopTurn.{at}
use Rattle.engine.proofs.events.Generated.{all_generate}

module _ (site : Site) {r : Simulation} (bank : FixedVec ChargerState) (s : AtStart (listed site.vehicles) r) (cleared : bank.items ≡ replicate (length site.chargers.items) empty) where
  abbrev begun : State
  begun = record { simulation = r; bank = bank }

  pub begins : step_state begun 0 ≡ start (plan_of site)
  begins = rw cleared (ap (λ (f : SiteState ChargerState). at (plan_of site) f 0) (starts (plan_of site) (steps (plan_of site)) s))

  -- there is room for everybody
  pub fit_start : SiteWithin site → length (listed site.vehicles) ≤ 64 → Running site 0 begun
  fit_start w few =
      let everybody = L.counts (plan_of site) (steps (plan_of site)) (lawful (plan_of site)) M.none in
      record {
        within = w;
        room = record {
          account = rw (s.pending, s.queue, s.sessions) (omega arith);
          kinds = rw s.pending (all_generate 64 (λ t v h. refl) (λ t v h. refl) 0 (listed site.vehicles) [] (omega arith) none);
          coming = rw s.pending (all_generate 64 (λ t v h. h) (λ t v h. h) 0 (listed site.vehicles) [] (omega arith) none);
          waits = rw s.queue none;
        };
        places = rw cleared (length-replicate (length site.chargers.items) empty);
      }

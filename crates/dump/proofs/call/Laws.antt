-- What a plan's run by events gives to both calls: its state can be dumped, and its answer and book are those of the unbroken run. Assumes nothing.
use mathlib.Core.Path.{◌≡◌, refl, sym, ap, ◌∙◌, subst}
use mathlib.Core.Bool.{Bool, true, false, cond}
use mathlib.Core.List.{List}
use Prim.Native.Nat.{ℕ, ◌≤◌}
use native.Mathlib.Omega.{arith}
use lib.ListN.{length}
use Rattle.charger.specs.Lists.{All}
use Rattle.charger.proofs.Lists.{all_map}
use Rattle.engine.specs.declared.discrete.State.{State}
use Rattle.engine.specs.declared.site.Site.{Site}
use Rattle.engine.specs.Plan.{Plan}
use Rattle.engine.specs.Discrete as D
use Rattle.engine.specs.Discrete.{Occupant, no_car, car}
use Rattle.engine.specs.Code.Simulation.{plan_of, model, booked}
use Rattle.engine.proofs.discrete.InPlan.{InPlan, in_plan}
use Rattle.plan.specs.declared.answer.Refusal.{Refusal}
use Rattle.plan.specs.declared.answer.Totals.{Totals}
use Rattle.files.specs.Call.{answer_of, book_after}
use Rattle.files.specs.Code.Reading.{Loaded}
use Rattle.files.specs.Read.{chargers_of, charger_of}
use Rattle.plan.specs.Places.{charger_block, charger_count}
use Rattle.plan.proofs.SearchLaws.{length-each}
use Rattle.files.specs.Demand.{OfRun}
use Rattle.files.proofs.Accepted.{counted}
use Rattle.files.proofs.call.RunLaws.{rows_read, runnable, writable}
use Rattle.files.proofs.call.BookDemand.{few_sessions}
use Rattle.files.specs.Code.Writing.{Writable}
use Rattle.files.proofs.call.Demanded.{Runs, answered}
use Rattle.dump.specs.Dump.{dump_bytes, dump_of}
use Rattle.dump.specs.Continued.{Unbroken}
use Rattle.dump.specs.Code.Dumping.{Dumpable, NearCar}
use Rattle.dump.proofs.call.Standing.{Standing, standing}
use Rattle.std.specs.Prelude.{Result, Ok, Err}

-- ---- the state of a run

near_car : (p : Plan) → length p.vehicles ≤ 64 → (o : Occupant) → Standing p o → NearCar o
near_car p few no_car h = tt
near_car p few (car v) h = omega arith

module _ {plan : List ℕ} {site : Site} (l : Loaded plan site) (state : State) (n : ℕ) (same : model state ≡ D.run (plan_of site) n) where
  abbrev p : Plan
  p = plan_of site

  -- whoever is pending, queued or at a charger is one of the plan's
  within : InPlan p (model state)
  within = subst (InPlan p) (sym same) (in_plan p n)

  at_chargers : All (Standing p) state.places.items
  at_chargers = subst (λ (s : D.State). All (Standing p) s.site.places) (sym same) (standing p n)

  few_vehicles : length p.vehicles ≤ 64
  few_vehicles = (runnable l).vehicles

  few_chargers : length p.chargers ≤ 32
  unfolding chargers_of
  few_chargers = omega (arith, ap (λ (q : Plan). length q.chargers) l.read, length-each (λ (i : ℕ). charger_of (charger_block plan i)) 0 (charger_count plan), (counted plan l.admitted).chargers)

  few_booked : length (booked state.simulation.sessions) ≤ 64
  few_booked = omega (arith, few_sessions plan 0 n l.admitted, ap (λ (s : D.State). length s.site.sessions) (same ∙ ap (λ (q : Plan). D.run q n) l.read))

  pub dumpable : Dumpable plan site state
  dumpable =
      record {
        counted = counted plan l.admitted;
        vehicles = ap (λ (q : Plan). q.vehicles) l.read;
        connectors = rows_read l;
        sessions = few_booked;
        events = all_map (λ e h. (omega (arith, h.0, few_vehicles), omega (arith, h.1, few_chargers))) within.pending;
        queue = all_map (λ v h. omega (arith, h, few_vehicles)) within.queue;
        chargers = omega (arith, within.places, few_chargers);
        cars = all_map (near_car p few_vehicles) at_chargers;
      }

  -- its book can be written
  pub bookable : (book : List ℕ) → 7168 ≤ length book → Writable plan site (booked state.simulation.sessions) book
  bookable book room = writable l (booked state.simulation.sessions) book few_booked room

  -- its dump is that of the plan's run
  pub dump_shown : dump_bytes plan (model state) ≡ dump_of plan n
  unfolding dump_of
  dump_shown = ap (dump_bytes plan) (same ∙ ap (λ (q : Plan). D.run q n) l.read)

-- ---- what is known of a run that was not refused

-- a test that refuses, before other tests
pub of_cond : (P : Totals → Type 0) (c : Bool) (x : Refusal) (r : Result Totals Refusal) → (c ≡ false → OfRun P r) → OfRun P (cond c (Err x) r)
of_cond P true x r h = tt
of_cond P false x r h = h refl

-- the answer and the book are those that `run` gives
pub unbroken : (plan : List ℕ) (n : ℕ) (old book : List ℕ) (r : Result Totals Refusal) → OfRun (Runs plan 0 n) r → OfRun (λ t. 7168 ≤ length old) r → book ≡ book_after plan 0 n r old
    → Unbroken plan n old book r
unbroken plan n old book (Err x) runs room b = tt
unbroken plan n old book (Ok t) runs room b =
    λ few.
    let e : Ok t ≡ answer_of plan 0 n (length old) = ap Ok runs.counts ∙ sym (answered plan 0 n (length old) runs.fine (omega arith) few room) in
    (e, b ∙ ap (λ (r : Result Totals Refusal). book_after plan 0 n r old) e)

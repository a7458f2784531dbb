-- What the plan's checks give to the engines, and the answer of a run by the tests in their order. Assumes nothing.
use mathlib.Core.Path.{◌≡◌, ◌∙◌, refl, sym, subst, ap}
use mathlib.Core.Bool.{Bool, true, false, cond}
use mathlib.Core.List.{List, []}
use Prim.Native.Nat.{ℕ, min, ◌≤◌, ◌<◌}
use native.Mathlib.Omega.{arith}
use borrow.Author.Tests.{lt-ltb, le-ltb, ltb-true}
use lib.Dec.{ltb}
use lib.Ieee.{le}
use lib.ListN.{length, take}
use Rattle.std.proofs.lemmas.List.{length-take, take_min}
use Rattle.curve.specs.Curve.{curve_of}
use Rattle.curve.specs.Code.Rising.{Rises}
use Rattle.curve.proofs.sort.Sorted.{rises, held_socs}
use Rattle.charger.specs.Lists.{All}
use Rattle.charger.proofs.Lists.{all_map}
use Rattle.engine.specs.declared.session.Session.{Session}
use Rattle.engine.specs.declared.site.Site.{Site}
use Rattle.charger.specs.Code.Vehicles.{listed}
use Rattle.engine.specs.Code.Simulation.{InTime, connectors_of, plan_of}
use Rattle.engine.specs.Plan.{Plan}
use Rattle.power.specs.Code.Rising.{Rising}
use Rattle.files.specs.Code.Reading.{Loaded}
use Rattle.files.specs.Read.{read_plan, points_of, row_of_charger, connector_rows, curve_of_profile, vehicle_in, vehicles_of}
use Rattle.plan.specs.Places.{charger_block, charger_count, profile_block, profile_count, vehicle_count}
use Rattle.plan.proofs.SearchLaws.{length-each}
use Rattle.files.specs.Code.Writing.{Writable, rows_of}
use Rattle.files.specs.Call.{stop_of, totals, if_fine, answer_of}
use Rattle.files.specs.Code.Running.{Runnable, Stopped, engine_number}
use Rattle.files.specs.declared.engines.Engine.{Engine}
use Rattle.files.specs.declared.engines.Engine.TheVariants.{Events, Steps}
use Rattle.files.specs.Check.{check_plan}
use Rattle.plan.specs.declared.answer.Refusal.TheVariants.{EngineAbove, AllowanceAbove, BookUnder}
use Rattle.files.proofs.Accepted.{counted, in_time, profiles_named}
use Rattle.files.proofs.read.Within.{points-within}
use Rattle.std.specs.Prelude.{Result, Ok, Err}
use Rattle.plan.specs.declared.answer.Refusal.{Refusal}
use Rattle.plan.specs.declared.answer.Totals.{Totals}

-- ---- what the plan's checks give

-- rows that are the plan's where the site counts them are so where the plan does
pub rows_counted : (plan : List ℕ) (site : Site) → connectors_of site ≡ connector_rows plan → rows_of plan site ≡ connector_rows plan
unfolding connector_rows
rows_counted plan site e =
    let n = length site.chargers.items in
    let many : min n (length site.rows) ≡ charger_count plan = sym (length-take n site.rows) ∙ ap length e ∙ length-each (λ (i : ℕ). row_of_charger (charger_block plan i)) 0 (charger_count plan) in
    ap (λ (m : ℕ). take m site.rows) (sym many) ∙ take_min n site.rows ∙ e

module _ {plan : List ℕ} {site : Site} (l : Loaded plan site) where
  vehicles_read : vehicles_of plan ≡ listed site.vehicles
  vehicles_read = ap (λ (p : Plan). p.vehicles) (sym l.read)

  pub runnable : Runnable site
  unfolding vehicles_of
  runnable =
      record {
        vehicles = omega (arith, ap length vehicles_read, length-each (vehicle_in plan) 0 (vehicle_count plan), (counted plan l.admitted).vehicles);
        times = subst (All InTime) vehicles_read (in_time plan l.admitted);
        profiles = subst (All (λ x. x.profile < 16)) vehicles_read (all_map (λ x h. omega (arith, h, (counted plan l.admitted).profiles)) (profiles_named plan l.admitted));
      }

  -- every curve of the table rises by SOC
  rising_at : (k : ℕ) (b : Bool) → ltb k (profile_count plan) ≡ b → Rises le (cond b (curve_of (points_of (profile_block plan k))) [])
  unfolding Rises
  rising_at k true h = rises (points_of (profile_block plan k)) (held_socs _ (points-within plan l.admitted k (ltb-true k (profile_count plan) h)))
  rising_at k false h = tt

  pub rising : Rising site.curves site.lens
  unfolding curve_of_profile
  rising = λ k. rw (ap (λ (p : Plan). p.curve k) l.read) (rising_at k (ltb k (profile_count plan)) refl)

  -- the rows are the plan's, as many as it counts chargers
  pub rows_read : rows_of plan site ≡ connector_rows plan
  rows_read = rows_counted plan site (ap (λ (p : Plan). p.connectors) l.read)

  pub writable : (xs : List Session) (book : List ℕ) → length xs ≤ 64 → 7168 ≤ length book → Writable plan site xs book
  writable xs book h k = record { counted = counted plan l.admitted; vehicles = ap (λ (p : Plan). p.vehicles) l.read; connectors = rows_read; sessions = h; room = k }

-- what a run of the site left at its stop is what the plan's run leaves
pub stopped_read : {plan : List ℕ} {site : Site} → Loaded plan site → (engine n m : ℕ) → n ≡ m → (old : List ℕ) (counts : Totals) (book : List ℕ)
    → Stopped plan engine (stop_of (plan_of site) engine n) old counts book → Stopped plan engine (stop_of (read_plan plan) engine m) old counts book
stopped_read {plan} {site} l engine n m e old counts book h =
    subst (λ (k : ℕ). Stopped plan engine (stop_of (read_plan plan) engine k) old counts book) e (subst (λ (q : Plan). Stopped plan engine (stop_of q engine n) old counts book) l.read h)

-- an engine's number is 0 or 1
pub engine_known : (e : Engine) (number : ℕ) → engine_number e ≡ number → number ≤ 1
engine_known Events number h = omega (arith, h)
engine_known Steps number h = omega (arith, h)

-- ---- the answer, by the tests in their order

module _ (plan : List ℕ) (engine allowance room : ℕ) where
  pub engine_above : 1 < engine → Err EngineAbove ≡ answer_of plan engine allowance room
  unfolding answer_of
  engine_above h = rw (lt-ltb 1 engine h)

  module _ (e : engine ≤ 1) where
    pub allowance_above : 10000000 < allowance → Err AllowanceAbove ≡ answer_of plan engine allowance room
    unfolding answer_of
    allowance_above h = rw (le-ltb 1 engine e, lt-ltb 10000000 allowance h)

    module _ (n : allowance ≤ 10000000) where
      pub book_under : room < 7168 → Err BookUnder ≡ answer_of plan engine allowance room
      unfolding answer_of
      book_under h = rw (le-ltb 1 engine e, le-ltb 10000000 allowance n, lt-ltb room 7168 h)

      module _ (r : 7168 ≤ room) where
        pub by_plan : (a : Result (Unit {0}) Refusal) → check_plan plan ≡ a
            → answer_of plan engine allowance room ≡ if_fine a (Ok (totals (stop_of (read_plan plan) engine allowance)))
        unfolding answer_of
        by_plan a h = rw (le-ltb 1 engine e, le-ltb 10000000 allowance n, le-ltb room 7168 r, h)

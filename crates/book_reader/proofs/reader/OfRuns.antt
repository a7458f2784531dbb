-- What a run of a fine plan has come to can be written: its sessions follow the rules of the book. Assumes nothing.
use mathlib.Core.Path.{◌≡◌, refl}
use mathlib.Core.Bool.{true}
use mathlib.Core.List.{List, map}
use Prim.Native.Nat.{ℕ, zero, suc, ◌^◌, ◌≤◌, ◌<◌}
use native.Mathlib.Omega.{arith}
use lib.Dec.{leb}
use borrow.Author.Tests.{le-leb}
use lib.ListN.{length-map}
use Rattle.charger.specs.Lists.{All, none, also}
use Rattle.charger.specs.Vehicle.{connector_of, no_vehicle, vehicle_at}
use Rattle.charger.proofs.Lists.{tick_le, all_default}
use Rattle.engine.specs.Plan.{Plan, row_at}
use Rattle.engine.specs.Demand.{has_charger}
use Rattle.engine.specs.declared.session.Session.{Session}
use Rattle.engine.specs.declared.session.Outcome.{Outcome}
use Rattle.engine.specs.declared.session.Outcome.TheVariants.{Open, Charged, Reneged, Balked}
use Rattle.engine.proofs.Demanded.{by_events_lem, by_steps_lem}
use Rattle.engine.proofs.site.Fitted.{Fitted, fitted_by_events, fitted_by_steps}
use Rattle.plan.specs.Plan.{check_blocks}
use Rattle.plan.specs.Search.{holds}
use Rattle.files.specs.Read.{read_plan, vehicles_of, connector_rows}
use Rattle.files.specs.Check.{check_plan}
use Rattle.files.specs.BookSession.{entry, code_of, book_sessions, Fits}
use Rattle.files.specs.Call.{stop_of}
use Rattle.files.proofs.book_session.Connectors.{connector_present}
use Rattle.files.proofs.check.PairLaws.{plan_fine}
use Rattle.files.proofs.call.BookDemand.{few_sessions}
use Rattle.files.proofs.call.Fleets.{fleets_known}
use Rattle.book_reader.specs.SessionRules.{session_tests}
use Rattle.book_reader.specs.Accepted.{ByRules, ran_to}
use Rattle.std.specs.Prelude.{Ok}

-- ---- both engines

fitted : (p : Plan) (engine n : ℕ) → All (Fitted p) (stop_of p engine n).sessions
fitted p zero n = fitted_by_events p n
fitted p (suc e) n = fitted_by_steps p n

used_most : (p : Plan) (engine n : ℕ) → (stop_of p engine n).used ≤ n
used_most p zero n = (by_events_lem p n).units.0
used_most p (suc e) n = (by_steps_lem p n).units.0

-- ---- the sessions of a plan's run

module _ (plan : List ℕ) where
  abbrev code : Session → ℕ
  code x = code_of (connector_of (row_at (connector_rows plan) x.charger) (vehicle_at (vehicles_of plan) x.vehicle))

  abbrev fleet : Session → ℕ
  fleet x = (vehicle_at (vehicles_of plan) x.vehicle).fleet

  follows : check_blocks plan ≡ Ok tt → (x : Session) → Fitted (read_plan plan) x → holds (session_tests (entry plan (vehicles_of plan) (connector_rows plan) x)) ≡ true
  follows fine x h = by_outcome x.outcome refl
    where
      small : leb (fleet x) 64 ≡ true
      small = le-leb (fleet x) 64 (all_default (vehicles_of plan) x.vehicle no_vehicle (omega arith) (fleets_known plan fine))

      plugged_in : (o : Outcome) → x.outcome ≡ o → has_charger o ≡ true → (1 ≤ code x) × (code x ≤ 5)
      plugged_in o e there = connector_present plan x h (rw e there)

      by_outcome : (o : Outcome) → x.outcome ≡ o → holds (session_tests (entry plan (vehicles_of plan) (connector_rows plan) x)) ≡ true
      by_outcome Open e = let k = plugged_in Open e refl in rw (e, small, le-leb 1 (code x) k.0, le-leb (code x) 5 k.1)
      by_outcome Charged e = let k = plugged_in Charged e refl in rw (e, small, le-leb 1 (code x) k.0, le-leb (code x) 5 k.1)
      by_outcome Reneged e = rw (e, small)
      by_outcome Balked e = rw (e, small)

  all_follow : check_blocks plan ≡ Ok tt → {xs : List Session} → All (Fitted (read_plan plan)) xs
      → All (λ y. holds (session_tests y) ≡ true) (map (entry plan (vehicles_of plan) (connector_rows plan)) xs)
  all_follow fine none = none
  all_follow fine (also {x = x} h hs) = also (follows fine x h) (all_follow fine hs)

  pub ran_by_rules : (engine n : ℕ) → check_plan plan ≡ Ok tt → engine ≤ 1 → n < 2 ^ 64
      → let s = stop_of (read_plan plan) engine n in
      All Fits (book_sessions plan s.sessions) → ByRules (ran_to plan engine s)
  unfolding book_sessions
  ran_by_rules engine n fine either small widths =
      let s = stop_of (read_plan plan) engine n in
      record {
        engine = either;
        ended = tick_le s.ended;
        used = omega (arith, used_most (read_plan plan) engine n);
        few = rw length-map (few_sessions plan engine n (plan_fine plan fine).0);
        widths = widths;
        fields = all_follow (plan_fine plan fine).0 (fitted (read_plan plan) engine n);
      }

-- What request 9 says of every run: the places of the fleets, the fleets in the book, and a plan without fleets. Assumes nothing.
use mathlib.Core.Path.{◌≡◌, sym, ap, ◌∙◌}
use mathlib.Core.List.{List}
use Prim.Native.Nat.{ℕ, zero, suc, ◌+◌, ◌-◌, ◌≤◌, ◌<◌}
use native.Mathlib.Nat.{zero-add, add-zero}
use native.Mathlib.Omega.{arith}
use borrow.Author.Tests.{eqb-true, eq-eqb, lt-ltb, leb-true}
use lib.Dec.{eqb}
use lib.ListN.{length, get_or}
use Rattle.charger.specs.declared.vehicle.Vehicle.{Vehicle}
use Rattle.charger.specs.Fleet.{queued_of, places_of}
use Rattle.charger.specs.Lists.{count, All}
use Rattle.charger.specs.Vehicle.{no_vehicle, vehicle_at}
use Rattle.charger.proofs.Lists.{all_map, all_at, count_alike}
use Rattle.engine.specs.declared.session.Session.{Session}
use Rattle.engine.specs.declared.session.Outcome.TheVariants.{Open}
use Rattle.engine.specs.Plan.{Plan}
use Rattle.engine.specs.SiteState.{uncharged}
use Rattle.engine.specs.Discrete as D
use Rattle.engine.specs.Timestep as T
use Rattle.engine.specs.Fleets as E
use Rattle.engine.proofs.discrete.EventLaws as L
use Rattle.engine.proofs.timestep.RunMoves as R
use Rattle.engine.proofs.site.Laws.{queue_in, sessions_in_lem}
use Rattle.engine.proofs.site.Fleets.{fleets_by_events, fleets_by_steps}
use Rattle.engine.proofs.site.AsBefore.{as_before}
use Rattle.plan.specs.Bytes.{le_at}
use Rattle.plan.specs.Places.{vehicle_count, vehicle_block}
use Rattle.plan.specs.Plan.{check_blocks}
use Rattle.plan.proofs.bytes.Laws.{le_at-drop}
use Rattle.plan.proofs.SearchLaws.{each_at, all_each}
use Rattle.files.specs.declared.book_session.BookSession.{BookSession}
use Rattle.files.specs.Read.{read_plan, vehicle_of, vehicle_in, vehicles_of, queue_places_of}
use Rattle.files.specs.BookSession.{vehicle_number, book_sessions, no_session}
use Rattle.files.specs.SessionBlocks.{session_of}
use Rattle.files.specs.Book.{session_count, book_offset, sessions_in}
use Rattle.files.specs.Call.{stop_of}
use Rattle.files.specs.Fleets.{fleet_of, queue_places_at}
use Rattle.files.proofs.SessionsIn.{in_book}
use Rattle.files.proofs.Accepted.{vehicle_tests_lem}
use Rattle.files.proofs.call.BookDemand.{vehicle-count, same_id, said_at, length_said}
use Rattle.std.specs.Prelude.{Ok}

-- ---- both engines

queue_of : (p : Plan) (engine n : ℕ) → All (λ v. v < length p.vehicles) (stop_of p engine n).queue
queue_of p zero n = queue_in p (D.events p) (L.lawful p) (L.run_moves p n)
queue_of p (suc e) n = queue_in p (T.steps p) (R.lawful p) (R.run_reached p n).moves

sessions_of : (p : Plan) (engine n : ℕ) → All (λ x. x.vehicle < length p.vehicles) (stop_of p engine n).sessions
sessions_of p zero n = sessions_in_lem p (D.events p) (L.lawful p) (L.run_moves p n)
sessions_of p (suc e) n = sessions_in_lem p (T.steps p) (R.lawful p) (R.run_reached p n).moves

within : (p : Plan) (engine n : ℕ) → E.FleetsWithin p (stop_of p engine n).queue
within p zero n = fleets_by_events p n
within p (suc e) n = fleets_by_steps p n

-- ---- what is read of the plan's bytes

module _ (plan : List ℕ) where
  fleet_read : (v : ℕ) → v < vehicle_count plan → (vehicle_at (vehicles_of plan) v).fleet ≡ fleet_of plan v
  unfolding vehicles_of vehicle_in vehicle_of
  fleet_read v h = ap (λ (x : Vehicle). x.fleet) (each_at (vehicle_in plan) 0 (vehicle_count plan) v no_vehicle h) ∙ rw zero-add

  places_read : (fleet : ℕ) → 1 ≤ fleet → fleet ≤ 64 → places_of (queue_places_of plan) fleet ≡ queue_places_at plan fleet
  unfolding queue_places_of
  places_read fleet one most =
      let e : 24 + (0 + (fleet - 1)) ≡ 23 + fleet = omega arith in
      each_at (λ k. get_or plan (24 + k) 0) 0 64 (fleet - 1) 0 (omega arith) ∙ rw e

  -- no fleet's queue exceeds its places
  pub fleets_within : (engine n fleet : ℕ) → 1 ≤ fleet → fleet ≤ 64
      → count (λ v. eqb (fleet_of plan v) fleet) (stop_of (read_plan plan) engine n).queue ≤ queue_places_at plan fleet
  unfolding queued_of
  fleets_within engine n fleet one most =
      let p = read_plan plan in
      let many = vehicle-count plan in
      let same = count_alike (all_map (λ v h. ap (λ (k : ℕ). eqb k fleet) (fleet_read v (omega (arith, h, many)))) (queue_of p engine n)) in
      omega (arith, same, within p engine n fleet one, places_read fleet one most)

  -- every fleet is 0 to 64
  pub fleets_known : check_blocks plan ≡ Ok tt → All (λ x. x.fleet ≤ 64) (vehicles_of plan)
  unfolding vehicles_of vehicle_in vehicle_of
  fleets_known fine =
      all_each (vehicle_in plan) 0 (vehicle_count plan) (λ v a b. leb-true (le_at 2 (vehicle_block plan v) 60) 64 (vehicle_tests_lem plan fine v (omega arith) 6))

  -- with every fleet 0 all is as before
  pub no_fleets : ((v : ℕ) → v < vehicle_count plan → fleet_of plan v ≡ 0) → E.AsBefore (read_plan plan)
  unfolding vehicles_of vehicle_in vehicle_of
  no_fleets h = as_before (read_plan plan) (all_each (vehicle_in plan) 0 (vehicle_count plan) (λ v a b. h v (omega arith)))

  -- ---- the fleets in the book

  module _ (fine : check_blocks plan ≡ Ok tt) (engine n : ℕ) (book : List ℕ) (size : session_count book ≡ length (book_sessions plan (stop_of (read_plan plan) engine n).sessions))
      (back : sessions_in book ≡ book_sessions plan (stop_of (read_plan plan) engine n).sessions) where
    abbrev xs : List Session
    xs = (stop_of (read_plan plan) engine n).sessions

    pub fleets_carried : (k v : ℕ) → k < session_count book → v < vehicle_count plan → le_at 4 book (book_offset k) ≡ le_at 4 (vehicle_block plan v) 0
        → le_at 2 book (book_offset k + 14) ≡ fleet_of plan v
    unfolding session_of vehicle_number
    fleets_carried k v h l e =
        let at = book_offset k in
        let d = uncharged 0 Open 0 in
        let here : k < length xs = omega (arith, h, size, length_said plan xs) in
        let x : Session = get_or xs k d in
        let read = sym (in_book book k h) ∙ ap (λ (ys : List BookSession). get_or ys k no_session) back ∙ said_at plan xs k d here in
        let there : x.vehicle < vehicle_count plan = omega (arith, all_at xs k d here (sessions_of (read_plan plan) engine n), vehicle-count plan) in
        let id : le_at 4 book at ≡ vehicle_number plan x.vehicle 0 = rw add-zero at (sym (le_at-drop 4 at book 0) ∙ ap (λ (y : BookSession). y.vehicle_id) read) in
        let named : le_at 2 book (at + 14) ≡ (vehicle_at (vehicles_of plan) x.vehicle).fleet = sym (le_at-drop 2 at book 14) ∙ ap (λ (y : BookSession). y.fleet) read in
        let own : vehicle_number plan v 0 ≡ le_at 4 (vehicle_block plan v) 0 = rw (lt-ltb v (vehicle_count plan) l) in
        let same : x.vehicle ≡ v = eqb-true x.vehicle v (sym (same_id plan fine x.vehicle v there l) ∙ eq-eqb _ _ (sym id ∙ e ∙ sym own)) in
        named ∙ fleet_read x.vehicle there ∙ ap (fleet_of plan) same

-- What demands 2 and 3 say of the book that a run leaves. Assumes nothing.
use mathlib.Core.Path.{◌≡◌, refl, sym, ap, ◌∙◌}
use mathlib.Core.Bool.{Bool, true, false}
use mathlib.Core.Logic.{⊎_elim}
use mathlib.Core.List.{List, map}
use Prim.Native.Nat.{ℕ, zero, suc, ◌+◌, ◌-◌, ◌≤◌, ◌<◌}
use native.Mathlib.Nat.{zero-add, add-zero, eq-or-lt_of_le, not-suc-le-zero}
use native.Mathlib.Omega.{arith}
use borrow.Author.Tests.{ltb-true, ltb-false, lt-ltb, eq-eqb, ne_eqb, eqb-true, eqb-false}
use lib.Dec.{ltb, eqb}
use lib.ListN.{length, get_or, drop, length-map, get_or-map}
use lib.Seq.{take_at}
use Rattle.charger.specs.Lists.{count}
use Rattle.charger.proofs.Lists.{count-append, count_map, count_same, count_le, count-every, and_both, eqb_comm}
use Rattle.charger.proofs.waiting_queue.Part.{get_d_any}
use Rattle.engine.specs.declared.session.Session.{Session}
use Rattle.engine.specs.declared.session.Outcome.{Outcome}
use Rattle.engine.specs.declared.session.Outcome.TheVariants.{Open, Charged, Reneged, Balked}
use Rattle.engine.specs.Plan.{Plan}
use Rattle.engine.specs.SiteState.{below, uncharged}
use Rattle.engine.specs.Discrete as D
use Rattle.engine.specs.Timestep as T
use Rattle.engine.specs.Demand.{is_arrival, arrives, has, anyone, outcome_number, of_outcome, is_closed, sessions_with, spots, Kept, longer, keeps}
use Rattle.engine.proofs.site.Laws.{once_below, spots_run}
use Rattle.engine.proofs.site.Places.{length-below}
use Rattle.engine.proofs.discrete.EventLaws as E
use Rattle.engine.proofs.timestep.RunMoves as R
use Rattle.plan.specs.Search.{each}
use Rattle.plan.specs.Places.{profile_count, charger_count, vehicle_count}
use Rattle.plan.specs.Plan.{id_at, with_id, check_blocks}
use Rattle.files.specs.Read.{read_plan, vehicle_in, vehicles_of, connector_rows}
use Rattle.files.specs.BookSession.{vehicle_number, entry, book_sessions, has_id, no_session}
use Rattle.files.specs.Book.{book_bytes, written, session_count, book_offset, session_at, outcome_at, outcomes_of, sessions_in}
use Rattle.files.specs.SessionBlocks.{slot, length-slot, session_bytes, session_of, sessions_from}
use Rattle.files.specs.Call.{stop_of}
use Rattle.files.specs.declared.book_session.BookSession.{BookSession}
use Rattle.plan.proofs.SearchLaws.{first_missed, length-each, each_at}
use Rattle.plan.proofs.blocks.Laws.{block_read}
use Rattle.plan.proofs.bytes.Laws.{Begins, le_at-drop}
use Rattle.files.proofs.ReadBack.{book_session_at, count-written}
use Rattle.files.proofs.Accepted.{counted, vehicle_rule, kind_vehicle}
use Rattle.std.specs.Prelude.{Ok}

pub vehicle-count : (plan : List ℕ) → length (vehicles_of plan) ≡ vehicle_count plan
unfolding vehicles_of
vehicle-count plan = length-each (vehicle_in plan) 0 (vehicle_count plan)

pub few_vehicles : (plan : List ℕ) → check_blocks plan ≡ Ok tt → length (vehicles_of plan) ≤ 64
few_vehicles plan fine = omega (arith, vehicle-count plan, (counted plan fine).vehicles)

-- ---- the outcome bytes are the sessions' outcomes

abbrev outcome : BookSession → ℕ
outcome x = x.outcome

outcomes_from : (b : List ℕ) (k m : ℕ) → each (outcome_at b) k m ≡ map outcome (sessions_from b 512 k m)
unfolding each sessions_from session_of
outcomes_from b k zero = refl
outcomes_from b k (suc m) = rw (le_at-drop 1 (book_offset k) b 13, outcomes_from b (suc k) m)

pub outcomes_read : (b : List ℕ) → outcomes_of b ≡ map outcome (sessions_in b)
unfolding sessions_in
outcomes_read b = outcomes_from b 0 (session_count b)

-- as many outcome bytes as sessions of the run have that outcome
pub outcomes_of_run : (plan : List ℕ) (b : List ℕ) (xs : List Session) (k : ℕ) → sessions_in b ≡ book_sessions plan xs
    → sessions_with k xs ≡ count (eqb k) (outcomes_of b)
unfolding book_sessions
outcomes_of_run plan b xs k e =
    let f = entry plan (vehicles_of plan) (connector_rows plan) in
    count_same (of_outcome k) (λ (x : Session). eqb k (outcome_number x.outcome)) xs (λ x. eqb_comm (outcome_number x.outcome) k)
    ∙ sym (ap (count (eqb k)) (outcomes_read b ∙ ap (map outcome) e) ∙ count_map outcome (eqb k) (map f xs) ∙ count_map f (λ (y : BookSession). eqb k y.outcome) xs)

-- ---- a vehicle's id is its own

module _ (plan : List ℕ) (fine : check_blocks plan ≡ Ok tt) where
  id_of : (v : ℕ) → v < vehicle_count plan → vehicle_number plan v 0 ≡ id_at plan (1 + profile_count plan + charger_count plan + v)
  unfolding vehicle_number id_at
  id_of v h = rw (lt-ltb v (vehicle_count plan) h, block_read 4 plan (1 + profile_count plan + charger_count plan + v) 0 (omega arith), add-zero)

  earlier : (v w : ℕ) → v < w → w < vehicle_count plan → vehicle_number plan v 0 ≡ vehicle_number plan w 0 → ⊥
  unfolding with_id
  earlier v w h l e =
      let from = 1 + profile_count plan + charger_count plan in
      let k = from + w in
      let unused : ltb (with_id plan from k (id_at plan k)) k ≡ false = rw (kind_vehicle plan w) at (vehicle_rule plan fine 5 (omega arith) w l) in
      let end : from + (k - from) ≤ with_id plan from k (id_at plan k) = omega (arith, ltb-false (with_id plan from k (id_at plan k)) k unused) in
      let other = first_missed (λ (j : ℕ). eqb (id_at plan j) (id_at plan k)) from (k - from) end (from + v) (omega arith) (omega arith) in
      eqb-false (id_at plan (from + v)) (id_at plan k) other (sym (id_of v (omega arith)) ∙ e ∙ id_of w l)

  -- so ids tell vehicles apart as their places do
  pub same_id : (v w : ℕ) → v < vehicle_count plan → w < vehicle_count plan → eqb (vehicle_number plan v 0) (vehicle_number plan w 0) ≡ eqb v w
  same_id v w h l = go (eqb v w) refl
    where
      go : (t : Bool) → eqb v w ≡ t → eqb (vehicle_number plan v 0) (vehicle_number plan w 0) ≡ t
      go true e = eq-eqb _ _ (ap (λ (u : ℕ). vehicle_number plan u 0) (eqb-true v w e))
      go false e = ne_eqb _ _ (λ q. apart (ltb v w) refl q)
        where
          apart : (b : Bool) → ltb v w ≡ b → vehicle_number plan v 0 ≡ vehicle_number plan w 0 → ⊥
          apart true a q = earlier v w (ltb-true v w a) l q
          apart false a q = ⊎_elim (λ (u : w ≡ v). eqb-false v w e (sym u)) (λ (u : w < v). earlier w v u h (sym q)) (eq-or-lt_of_le (ltb-false v w a))

-- ---- for each vehicle one spot, its sessions counted by its id

below_same : (f g : ℕ → Bool) (n : ℕ) → ((w : ℕ) → w < n → f w ≡ g w) → count f (below n) ≡ count g (below n)
below_same f g zero h = refl
below_same f g (suc n) h = rw (count-append, count-append, h n (omega arith), below_same f g n (λ w l. h w (omega arith)))

spots_stop : (p : Plan) (engine n : ℕ) (test : ℕ → Bool) → let s = stop_of p engine n in
    spots test s.pending s.queue s.sessions ≡ count test (below (length p.vehicles))
spots_stop p zero n test = spots_run p (D.events p) (E.lawful p) test (E.run_moves p n)
spots_stop p (suc e) n test = spots_run p (T.steps p) (R.lawful p) test (R.run_reached p n).moves

-- the book's sessions of a vehicle's id are the run's sessions of vehicles with that id
ids_of_run : (plan b : List ℕ) (xs : List Session) (id : ℕ) → sessions_in b ≡ book_sessions plan xs
    → count (has_id id) (sessions_in b) ≡ count (has (λ w. eqb id (vehicle_number plan w 0))) xs
unfolding book_sessions
ids_of_run plan b xs id e = ap (count (has_id id)) e ∙ count_map (entry plan (vehicles_of plan) (connector_rows plan)) (has_id id) xs

pub one_by_id : (plan b : List ℕ) (engine n : ℕ) → check_blocks plan ≡ Ok tt → let s = stop_of (read_plan plan) engine n in
    sessions_in b ≡ book_sessions plan s.sessions → (v : ℕ) → v < vehicle_count plan
    → count (arrives (eqb v)) s.pending + count (eqb v) s.queue + count (has_id (vehicle_number plan v 0)) (sessions_in b) ≡ 1
one_by_id plan b engine n fine e v h =
    let s = stop_of (read_plan plan) engine n in
    let vehicles = length (vehicles_of plan) in
    let many : vehicles ≡ vehicle_count plan = vehicle-count plan in
    let test : ℕ → Bool = λ w. eqb (vehicle_number plan v 0) (vehicle_number plan w 0) in
    let own : (w : ℕ) → eqb v w ≡ true → test w ≡ true = λ w t. eq-eqb _ _ (ap (λ (u : ℕ). vehicle_number plan u 0) (eqb-true v w t)) in
    let once : count test (below vehicles) ≡ 1 =
    below_same test (eqb v) vehicles (λ w l. same_id plan fine v w h (omega arith)) ∙ once_below v vehicles (omega arith) in
    omega (
      arith,
      spots_stop (read_plan plan) engine n test,
      spots_stop (read_plan plan) engine n (eqb v),
      once_below v vehicles (omega arith),
      once,
      ids_of_run plan b s.sessions (vehicle_number plan v 0) e,
      count_le (arrives (eqb v)) (arrives test) s.pending (λ x t. and_both (is_arrival x.kind) (own x.vehicle) t),
      count_le (eqb v) test s.queue own,
      count_le (has (eqb v)) (has test) s.sessions (λ x t. own x.vehicle t),
    )

-- ---- a closed session stands at the same offset, byte for byte

pub few_sessions : (plan : List ℕ) (engine n : ℕ) → check_blocks plan ≡ Ok tt → length (stop_of (read_plan plan) engine n).sessions ≤ 64
few_sessions plan engine n fine =
    let s = stop_of (read_plan plan) engine n in
    omega (
      arith,
      spots_stop (read_plan plan) engine n anyone,
      count-every s.sessions,
      count-every (below (length (vehicles_of plan))),
      length-below (length (vehicles_of plan)),
      vehicle-count plan,
      (counted plan fine).vehicles,
    )

kept_at : {xs ys : List Session} → Kept xs ys → (k : ℕ) (d : Session) → k < length xs → is_closed (get_or xs k d).outcome ≡ true
    → (k < length ys) × (get_or ys k d ≡ get_or xs k d)
kept_at longer k d l c = absurd (not-suc-le-zero l)
kept_at (keeps h hs) zero d l c = (omega arith, h c)
kept_at (keeps h hs) (suc k) d l c =
    let next = kept_at hs k d (omega arith) c in
    (omega (arith, next.0), next.1)

closed-number : (o : Outcome) → 1 ≤ outcome_number o → is_closed o ≡ true
closed-number Open h = absurd (omega arith)
closed-number Charged h = refl
closed-number Reneged h = refl
closed-number Balked h = refl

-- the bytes of a session in a book
pub bytes_at : (engine ended used : ℕ) (xs : List BookSession) (buffer : List ℕ) (k : ℕ) → k < length xs
    → session_at (written (book_bytes engine ended used xs) buffer) k ≡ slot xs k
unfolding written Begins
bytes_at engine ended used xs buffer k h =
    let s = book_session_at engine ended used xs (drop (length (book_bytes engine ended used xs)) buffer) k h in
    rw (s.1, take_at (slot xs k) s.0 96 (length-slot xs k))

-- what the book says of the session at an index
pub said_at : (plan : List ℕ) (xs : List Session) (k : ℕ) (d : Session) → k < length xs
    → get_or (book_sessions plan xs) k no_session ≡ entry plan (vehicles_of plan) (connector_rows plan) (get_or xs k d)
unfolding book_sessions
said_at plan xs k d h =
    let f = entry plan (vehicles_of plan) (connector_rows plan) in
    get_d_any (map f xs) k no_session (f d) (omega (arith, length-map xs f)) ∙ get_or-map f xs k d

pub length_said : (plan : List ℕ) (xs : List Session) → length (book_sessions plan xs) ≡ length xs
unfolding book_sessions
length_said plan xs = length-map xs (entry plan (vehicles_of plan) (connector_rows plan))

-- its outcome byte
outcome_at_lem : (plan b : List ℕ) (xs : List Session) (k : ℕ) (d : Session) → sessions_in b ≡ book_sessions plan xs → k < session_count b → k < length xs
    → outcome_at b k ≡ outcome_number (get_or xs k d).outcome
unfolding no_session
outcome_at_lem plan b xs k d e h l =
    let read : get_or (outcomes_of b) k 0 ≡ outcome_at b k = rw zero-add at (each_at (outcome_at b) 0 (session_count b) k 0 h) in
    sym read ∙ ap (λ (os : List ℕ). get_or os k 0) (outcomes_read b ∙ ap (map outcome) e) ∙ get_or-map outcome (book_sessions plan xs) k no_session ∙ ap outcome (said_at plan xs k d l)

-- two books, of which the second keeps the closed sessions of the first
pub closed_stays : (plan : List ℕ) (engine ended used ended' used' : ℕ) (xs ys : List Session) (old buffer : List ℕ) → Kept xs ys → length ys ≤ 64
    → let book = written (book_bytes engine ended used (book_sessions plan xs)) old in
    let second = written (book_bytes engine ended' used' (book_sessions plan ys)) buffer in
    session_count book ≡ length (book_sessions plan xs) → sessions_in book ≡ book_sessions plan xs
    → (k : ℕ) → k < session_count book → 1 ≤ outcome_at book k → (k < session_count second) × (session_at second k ≡ session_at book k)
unfolding slot
closed_stays plan engine ended used ended' used' xs ys old buffer kept few size back k h closed =
    let d = uncharged 0 Open 0 in
    let X = book_sessions plan xs in
    let Y = book_sessions plan ys in
    let book : List ℕ = written (book_bytes engine ended used X) old in
    let second : List ℕ = written (book_bytes engine ended' used' Y) buffer in
    let here : k < length xs = omega (arith, h, size, length_said plan xs) in
    let shut : is_closed (get_or xs k d).outcome ≡ true = closed-number (get_or xs k d).outcome (omega (arith, closed, outcome_at_lem plan book xs k d back h here)) in
    let stays = kept_at kept k d here shut in
    let many : session_count second ≡ length Y = count-written engine ended' used' Y buffer (omega (arith, few, length_said plan ys)) in
    let same : get_or Y k no_session ≡ get_or X k no_session =
    said_at plan ys k d stays.0 ∙ ap (entry plan (vehicles_of plan) (connector_rows plan)) stays.1 ∙ sym (said_at plan xs k d here) in (
      omega (arith, many, stays.0, length_said plan ys),
      bytes_at engine ended' used' Y buffer k (omega (arith, stays.0, length_said plan ys))
          ∙ ap session_bytes same
          ∙ sym (bytes_at engine ended used X old k (omega (arith, here, length_said plan xs))),
    )

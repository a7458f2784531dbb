-- What `book_late` promises of every booking that it does not refuse, and its answer by the tests in their order. Assumes nothing.
use mathlib.Core.Path.{◌≡◌, refl, sym, ap, fun_ext, ◌∙◌, subst}
use mathlib.Core.Bool.{Bool, true, false, cond, not}
use mathlib.Core.List.{List, [], ◌∷◌, ◌++◌, map}
use Prim.Native.Nat.{ℕ, ◌+◌, ◌≤◌, ◌<◌}
use native.Mathlib.Omega.{arith}
use borrow.Author.Tests.{lt-ltb, le-ltb, eq-eqb, ne_eqb, eqb-true, not-false}
use lib.Dec.{ltb, leb, eqb}
use lib.ListN.{length, take, drop}
use Rattle.charger.specs.declared.vehicle.Vehicle.{Vehicle}
use Rattle.charger.specs.Lists.{count}
use Rattle.engine.specs.declared.events.Event.{Event}
use Rattle.engine.specs.Plan.{Plan}
use Rattle.engine.specs.Events.{arrival, renege, before, push}
use Rattle.engine.specs.SiteState.{is_empty}
use Rattle.engine.specs.Discrete.{State, run}
use Rattle.engine.specs.Demand.{arrives, anyone, stop_at}
use Rattle.engine.proofs.events.Before.{arrival-first}
use Rattle.engine.proofs.site.Laws.{count-push}
use Rattle.engine.proofs.discrete.EventLaws.{sessions_in_lem}
use Rattle.engine.proofs.discrete.InOrder.{ordered}
use Rattle.plan.specs.Plan.{check_blocks}
use Rattle.plan.specs.Places.{vehicle_count}
use Rattle.plan.specs.declared.answer.Rule.TheVariants.{Length}
use Rattle.plan.specs.declared.answer.Refusal.{Refusal}
use Rattle.plan.specs.declared.answer.Refusal.TheVariants.{Broken, DumpUnder, OtherDump, VehiclesFull, NotLater}
use Rattle.plan.proofs.bytes.Laws.{Begins}
use Rattle.files.specs.Read.{read_plan, vehicle_of}
use Rattle.files.specs.BookSession.{book_sessions}
use Rattle.files.specs.Check.{then_check, OfFine, check_plan}
use Rattle.files.specs.Book.{written}
use Rattle.files.specs.Call.{totals}
use Rattle.files.specs.Code.Reading.{Counted}
use Rattle.files.proofs.check.PairLaws.{plan_fine}
use Rattle.files.proofs.Accepted.{counted}
use Rattle.files.proofs.call.BookDemand.{vehicle-count, few_sessions, length_said}
use Rattle.dump.specs.EventBlocks.{event_bytes}
use Rattle.dump.specs.Dump.{dump_bytes, dump_of, handled_in, is_dump, events_in, session_count, session_at}
use Rattle.dump.specs.Call.{continued_answer}
use Rattle.dump.proofs.dump.Starts.{starts}
use Rattle.dump.proofs.dump.Runs.{few_events, fits_buffer, named, is_own, reached}
use Rattle.dump.proofs.dump.Passes.{dump_passes}
use Rattle.dump.proofs.dump.ReadBack.{events_read, session_count_lem, session_read, before_events, behind_events}
use Rattle.late_booking.specs.LongerPlan.{longer}
use Rattle.late_booking.specs.LateCar.{arrival_in, car_of, is_later, joined, with_car}
use Rattle.late_booking.specs.Call.{booking_answer, late_answer, dumped_after}
use Rattle.late_booking.specs.Stands.{RunStands, InOrder, OneMoreToArrive, WholeDump, HeaderStands, SessionsStand, EventsJoined, PlannedInFull}
use Rattle.late_booking.proofs.longer.Reading.{longer_read}
use Rattle.late_booking.proofs.longer.Dumped.{same_sessions, same_event, same_queue, same_busy}
use Rattle.late_booking.proofs.late.Pushes.{put_in, put_in_map}
use Rattle.late_booking.proofs.late.RunStands.{run_stands}
use Rattle.std.specs.Prelude.{Result, Ok, Err}

-- all of them, in the order in which the call promises them
pub record LatePromises (plan dump car new : List ℕ) (r : Result (Unit {0}) Refusal) : Type 0 where
  pub stands : RunStands plan dump car r
  pub order : InOrder plan dump car r
  pub counts : OneMoreToArrive plan dump car r
  pub whole : WholeDump plan dump car new r
  pub header : HeaderStands plan dump car new r
  pub sessions : SessionsStand plan dump car new r
  pub events : EventsJoined plan dump car new r
  pub full : PlannedInFull plan dump car new r

-- nothing is promised of a refused call
pub unbooked : (plan dump car new : List ℕ) (x : Refusal) → LatePromises plan dump car new (Err x)
unbooked plan dump car new x = record { stands = tt; order = tt; counts = tt; whole = tt; header = tt; sessions = tt; events = tt; full = tt }

-- ---- what is known of a booking that was not refused

of_test : (P : Type 0) (t : Bool) (x : Refusal) (next : Result (Unit {0}) Refusal) → (t ≡ false → OfFine P next) → OfFine P (cond t (Err x) next)
of_test P true x next h = tt
of_test P false x next h = h refl

of_check : (P : Type 0) (a next : Result (Unit {0}) Refusal) → (a ≡ Ok tt → OfFine P next) → OfFine P (then_check a next)
of_check P (Ok u) next h = h refl
of_check P (Err x) next h = tt

of_last : (P : Type 0) (a : Result (Unit {0}) Refusal) → (a ≡ Ok tt → P) → OfFine P a
of_last P (Ok u) h = h refl
of_last P (Err x) h = tt

of_both : {P Q R : Type 0} → (P → Q → R) → (r : Result (Unit {0}) Refusal) → OfFine P r → OfFine Q r → OfFine R r
of_both f (Ok u) p q = f p q
of_both f (Err x) p q = tt

pub record Booking (plan dump car : List ℕ) : Type 0 where
  pub one : length car ≡ 512
  pub fine : check_plan plan ≡ Ok tt
  pub own : is_dump plan dump ≡ true
  pub later : is_later (read_plan plan) (handled_in dump) (arrival_in car) ≡ true
  pub longer_fine : check_plan (longer plan car) ≡ Ok tt

module _ (plan dump car : List ℕ) (space : ℕ) where
  known : OfFine (Booking plan dump car) (late_answer plan dump car space)
  unfolding late_answer booking_answer
  known =
      let P = Booking plan dump car in
      of_test P (ltb space 16384) DumpUnder _
      (λ a. of_test P (not (eqb (length car) 512)) (Broken Length 0) _
      (λ b. of_check P (check_plan plan) _
      (λ c. of_test P (not (is_dump plan dump)) OtherDump _
      (λ d. of_test P (leb 64 (vehicle_count plan)) VehiclesFull _
      (λ e. of_test P (not (is_later (read_plan plan) (handled_in dump) (arrival_in car))) NotLater _
      (λ f. of_last P (check_plan (longer plan car))
      (λ g. record {
        one = eqb-true (length car) 512 (not-false _ b);
        fine = c;
        own = not-false _ d;
        later = not-false _ f;
        longer_fine = g;
      })))))))

  -- ---- the answer, by the tests in their order

  pub new_under : space < 16384 → Err DumpUnder ≡ late_answer plan dump car space
  unfolding late_answer
  new_under h = rw (lt-ltb space 16384 h)

  module _ (a : 16384 ≤ space) where
    pub car-length : (length car ≡ 512 → ⊥) → Err (Broken Length 0) ≡ late_answer plan dump car space
    unfolding late_answer
    car-length h = rw (le-ltb space 16384 a, ne_eqb (length car) 512 h)

    pub by_plan : length car ≡ 512 → (x : Result (Unit {0}) Refusal) → check_plan plan ≡ x
        → late_answer plan dump car space ≡ then_check x (booking_answer plan dump car)
    unfolding late_answer
    by_plan h x e = rw (le-ltb space 16384 a, eq-eqb (length car) 512 h, e)

-- the two events of a car that is yet to arrive
not_empty : (e : Event) (l : List Event) → is_empty (push e l) ≡ false
not_empty e [] = refl
not_empty e (x ∷ l) = go (before e x)
  where
    go : (t : Bool) → is_empty (cond t (e ∷ (x ∷ l)) (x ∷ push e l)) ≡ false
    go true = refl
    go false = refl

one_arrives : (v : ℕ) (x : Vehicle) (es : List Event) → count (arrives anyone) (joined v x es) ≡ count (arrives anyone) es + 1
one_arrives v x es =
    rw (count-push (arrives anyone) (renege (x.arrival + x.wait) v) (push (arrival x.arrival v) es), count-push (arrives anyone) (arrival x.arrival v) es)
    (omega arith)

-- ---- the promises

module _ (plan dump car : List ℕ) (k : Booking plan dump car) where
  abbrev p : Plan
  p = read_plan plan

  abbrev n : ℕ
  n = handled_in dump

  abbrev x : Vehicle
  x = car_of plan car

  fine : check_blocks plan ≡ Ok tt
  fine = (plan_fine plan k.fine).0

  long_fine : check_blocks (longer plan car) ≡ Ok tt
  long_fine = (plan_fine (longer plan car) k.longer_fine).0

  sized : Counted plan
  sized = counted plan fine

  own_count : (run p n).handled ≡ n
  own_count = reached plan fine dump k.own

  stands : run (read_plan (longer plan car)) n ≡ with_car (vehicle_count plan) x (run p n)
  unfolding vehicle_of
  stands =
      ap (λ (q : Plan). run q n) (longer_read plan car sized k.one)
      ∙ run_stands p x n own_count k.later
      ∙ ap (λ (v : ℕ). with_car v x (run p n)) (vehicle-count plan)

  one_more : OneMoreToArrive plan dump car (Ok tt)
  one_more =
      ap (λ (s : State). totals (stop_at (read_plan (longer plan car)) s)) stands
      ∙ rw (not_empty (renege (x.arrival + x.wait) (vehicle_count plan)) (push (arrival x.arrival (vehicle_count plan)) (run p n).site.pending), one_arrives (vehicle_count plan) x (run p n).site.pending)

  -- the dump that was given back is the plan's at its count, and what follows
  old : Begins dump (dump_bytes plan (run p n))
  unfolding is_dump dump_of
  old = starts (dump_of plan n) dump k.own

  few_pending : length (run p n).site.pending < 65536
  few_pending = omega (arith, few_events plan fine n)

  few_later : length (run (read_plan (longer plan car)) n).site.pending < 65536
  few_later = omega (arith, few_events (longer plan car) long_fine n)

  few_booked : length (run p n).site.sessions < 65536
  few_booked = omega (arith, few_sessions plan 0 n fine)

  same_booked : book_sessions (longer plan car) (run p n).site.sessions ≡ book_sessions plan (run p n).site.sessions
  same_booked = same_sessions plan car sized (run p n).site.sessions (rw (vehicle-count plan) at (sessions_in_lem p n))

  module _ (new rest : List ℕ) (w : new ≡ dump_of (longer plan car) n ++ rest) where
    -- the new dump is that of the state with the car yet to arrive
    shown : new ≡ dump_bytes (longer plan car) (with_car (vehicle_count plan) x (run p n)) ++ rest
    unfolding dump_of
    shown = w ∙ ap (λ (s : State). dump_bytes (longer plan car) s ++ rest) stands

    few_joined : length (joined (vehicle_count plan) x (run p n).site.pending) < 65536
    few_joined = subst (λ (s : State). length s.site.pending < 65536) stands few_later

    whole : WholeDump plan dump car new (Ok tt)
    unfolding dump_of
    whole = (fits_buffer (longer plan car) long_fine n, λ i h. rw w (dump_passes (longer plan car) _ _ i h))

    header : HeaderStands plan dump car new (Ok tt)
    unfolding Begins
    header =
        let s = with_car (vehicle_count plan) x (run p n) in
        let tail : List ℕ → List ℕ = λ b. take 498 (drop 10 b) in
        let now = ap tail shown ∙ behind_events (longer plan car) s rest few_joined in
        let was = ap tail old.1 ∙ behind_events plan (run p n) old.0 few_pending in (
          ap (take 8) shown ∙ before_events (longer plan car) s rest few_joined ∙ sym (ap (take 8) old.1 ∙ before_events plan (run p n) old.0 few_pending),
          rw (now, was, same_queue plan car sized (run p n).site.queue, same_busy plan car sized 0 (run p n).site.places),
        )

    sessions : SessionsStand plan dump car new (Ok tt)
    unfolding Begins
    sessions i h =
        let count : session_count dump ≡ length (run p n).site.sessions = ap session_count old.1 ∙ session_count_lem plan (run p n) old.0 few_pending few_booked in
        let inside : i < length (book_sessions plan (run p n).site.sessions) = omega (arith, h, count, length_said plan (run p n).site.sessions) in
        let now = ap (λ (b : List ℕ). session_at b i) shown ∙ session_read (longer plan car) (with_car (vehicle_count plan) x (run p n)) rest few_joined i (rw same_booked inside) in
        let was = ap (λ (b : List ℕ). session_at b i) old.1 ∙ session_read plan (run p n) old.0 few_pending i inside in
        rw (now, was, same_booked)

    events : EventsJoined plan dump car new (Ok tt)
    unfolding vehicle_of Begins
    events =
        let a = arrival (arrival_in car) (vehicle_count plan) in
        let r = renege (x.arrival + x.wait) (vehicle_count plan) in
        let es = (run p n).site.pending in
        let was : events_in dump ≡ map (event_bytes plan) es = ap events_in old.1 ∙ events_read plan (run p n) old.0 few_pending in
        let same : event_bytes (longer plan car) ≡ event_bytes plan = fun_ext (same_event plan car sized) in
        let is : events_in new ≡ map (event_bytes plan) (push r (push a es)) =
        ap events_in shown ∙ events_read (longer plan car) (with_car (vehicle_count plan) x (run p n)) rest few_joined ∙ ap (λ (f : Event → List ℕ). map f (push r (push a es))) same in
        rw (was, is) (put_in_map (event_bytes plan) a r es (push r (push a es)) (put_in a r es (arrival-first x.arrival x.wait (vehicle_count plan))))

    full : PlannedInFull plan dump car new (Ok tt)
    unfolding continued_answer
    full further small book room =
        let at : handled_in new ≡ n = ap handled_in w ∙ named (longer plan car) long_fine n rest ∙ ap (λ (s : State). s.handled) stands ∙ own_count in
        let own : is_dump (longer plan car) new ≡ true = ap (is_dump (longer plan car)) w ∙ is_own (longer plan car) long_fine n rest in
        rw (le-ltb 10000000 further small, le-ltb (length book) 7168 room, k.longer_fine, own, at) (refl, refl)

-- what the call leaves where it does not refuse
left : (plan dump car buffer new : List ℕ) (r : Result (Unit {0}) Refusal) → new ≡ dumped_after (longer plan car) (handled_in dump) r buffer
    → OfFine (new ≡ dump_of (longer plan car) (handled_in dump) ++ drop (length (dump_of (longer plan car) (handled_in dump))) buffer) r
unfolding written
left plan dump car buffer new (Ok u) e = e
left plan dump car buffer new (Err x) e = tt

pub booked : (plan dump car buffer new : List ℕ) (r : Result (Unit {0}) Refusal) → r ≡ late_answer plan dump car (length buffer) → new ≡ dumped_after (longer plan car) (handled_in dump) r buffer
    → LatePromises plan dump car new r
booked plan dump car buffer new r e b =
    promises r (subst (OfFine (Booking plan dump car)) (sym e) (known plan dump car (length buffer))) (left plan dump car buffer new r b)
  where
    promises : (r : Result (Unit {0}) Refusal) → OfFine (Booking plan dump car) r
        → OfFine (new ≡ dump_of (longer plan car) (handled_in dump) ++ drop (length (dump_of (longer plan car) (handled_in dump))) buffer) r → LatePromises plan dump car new r
    promises (Ok u) k w =
        record {
          stands = stands plan dump car k;
          order = ordered (read_plan (longer plan car)) (handled_in dump);
          counts = one_more plan dump car k;
          whole = whole plan dump car k new _ w;
          header = header plan dump car k new _ w;
          sessions = sessions plan dump car k new _ w;
          events = events plan dump car k new _ w;
          full = full plan dump car k new _ w;
        }
    promises (Err y) k w = unbooked plan dump car new y

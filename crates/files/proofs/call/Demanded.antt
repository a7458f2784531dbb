-- Demands 2 and 3 and requests 13 and 9 hold of what every run answers, and of the book that it leaves.
use mathlib.Core.Path.{◌≡◌, refl, sym, ap, ◌∙◌, subst}
use mathlib.Core.Bool.{Bool, true, false, cond}
use mathlib.Core.List.{List}
use Prim.Native.Nat.{ℕ, zero, suc, ◌+◌, ◌-◌, ◌≤◌, ◌<◌}
use native.Mathlib.Omega.{arith}
use borrow.Author.Tests.{ltb-false, le-ltb}
use lib.Dec.{ltb}
use lib.ListN.{length}
use Rattle.charger.specs.Lists.{tick}
use Rattle.engine.specs.Plan.{Plan}
use Rattle.engine.specs.Demand.{Demand, EventDemand, Kept}
use Rattle.engine.proofs.Demanded.{by_events_lem, by_steps_lem, kept_by_events, kept_by_steps, event_demand, step_demand}
use Rattle.files.specs.Read.{read_plan}
use Rattle.files.specs.Check.{check_plan}
use Rattle.files.specs.Book.{written, session_count, outcome_at, session_at}
use Rattle.files.specs.Call.{stop_of, totals, if_fine, answer_of, book_of, book_after}
use Rattle.files.specs.Demand.{OfRun, ReadsBack, UnitsUsed, FreeKnown, NoFreeFits, OneSpot, OneById, AddUp, CountsOfBook, ClosedStay, ExactWaits, Handled, EventsEnd, StepsEnd}
use Rattle.files.specs.HotDay.{HotDayOfRun, BookByRating}
use Rattle.files.specs.Fleets.{FleetsWithin, FleetsCarried, AsBefore}
use Rattle.files.specs.EvenShares.{SharedEvenly, LimitIgnored}
use Rattle.engine.proofs.site.NoLimit.{no_limit}
use Rattle.files.proofs.call.EvenShares.{evenly}
use Rattle.files.specs.BookSession.{book_sessions}
use Rattle.plan.specs.declared.answer.Totals.{Totals}
use Rattle.plan.specs.declared.answer.Refusal.{Refusal}
use Rattle.plan.specs.declared.answer.Refusal.TheVariants.{EngineAbove, AllowanceAbove, BookUnder}
use Rattle.files.proofs.check.PairLaws.{plan_fine}
use Rattle.files.proofs.call.HotDay.{hot_day_of_plan, book_by_rating}
use Rattle.files.proofs.call.Fleets.{fleets_within, fleets_carried, no_fleets}
use Rattle.files.proofs.call.BookDemand.{vehicle-count, outcomes_of_run, one_by_id, few_sessions, closed_stays}
use Rattle.std.specs.Prelude.{Result, Ok, Err}

-- ---- what is known of a run that was not refused

pub record Runs (plan : List ℕ) (engine n : ℕ) (t : Totals) : Type 0 where
  pub fine : check_plan plan ≡ Ok tt
  pub either : engine ≤ 1
  pub counts : t ≡ totals (stop_of (read_plan plan) engine n)

pub of_map : {P Q : Totals → Type 0} → ((t : Totals) → P t → Q t) → (r : Result Totals Refusal) → OfRun P r → OfRun Q r
of_map f (Err x) h = tt
of_map f (Ok t) h = f t h

pub of_both : {P Q R : Totals → Type 0} → ((t : Totals) → P t → Q t → R t) → (r : Result Totals Refusal) → OfRun P r → OfRun Q r → OfRun R r
of_both f (Err x) h k = tt
of_both f (Ok t) h k = f t h k

module _ (plan : List ℕ) (engine n : ℕ) where
  abbrev run : Totals
  run = totals (stop_of (read_plan plan) engine n)

  -- a plan that is fine is run
  pub if_fine_lem : engine ≤ 1 → OfRun (Runs plan engine n) (if_fine (check_plan plan) (Ok run))
  if_fine_lem h = by_plan (check_plan plan) refl
    where
      by_plan : (a : Result (Unit {0}) Refusal) → check_plan plan ≡ a → OfRun (Runs plan engine n) (if_fine a (Ok run))
      by_plan (Ok u) e = record { fine = e; either = h; counts = refl }
      by_plan (Err x) e = tt

  known : (room : ℕ) → OfRun (Runs plan engine n) (answer_of plan engine n room)
  unfolding answer_of
  known room = by_engine_lem (ltb 1 engine) refl
    where
      by_room : (c : Bool) → engine ≤ 1 → OfRun (Runs plan engine n) (cond c (Err BookUnder) (if_fine (check_plan plan) (Ok run)))
      by_room true h = tt
      by_room false h = if_fine_lem h

      by_allowance : (c : Bool) → engine ≤ 1
          → OfRun (Runs plan engine n) (cond c (Err AllowanceAbove) (cond (ltb room 7168) (Err BookUnder) (if_fine (check_plan plan) (Ok run))))
      by_allowance true h = tt
      by_allowance false h = by_room (ltb room 7168) h

      by_engine_lem : (c : Bool) → ltb 1 engine ≡ c
          → OfRun (Runs plan engine n) (cond c (Err EngineAbove) (cond (ltb 10000000 n) (Err AllowanceAbove) (cond (ltb room 7168) (Err BookUnder) (if_fine (check_plan plan) (Ok run)))))
      by_engine_lem true e = tt
      by_engine_lem false e = by_allowance (ltb 10000000 n) (ltb-false 1 engine e)

  -- what is known of what `run` answers
  pub known_run : (room : ℕ) (r : Result Totals Refusal) → r ≡ answer_of plan engine n room → OfRun (Runs plan engine n) r
  known_run room r e = subst (OfRun (Runs plan engine n)) (sym e) (known room)

  -- and where nothing refuses it, a run is not refused
  pub answered : (room : ℕ) → check_plan plan ≡ Ok tt → engine ≤ 1 → n ≤ 10000000 → 7168 ≤ room → answer_of plan engine n room ≡ Ok run
  unfolding answer_of
  answered room fine e a r = rw (le-ltb 1 engine e, le-ltb 10000000 n a, le-ltb room 7168 r, fine)

-- ---- both engines

demanded : (p : Plan) (engine n : ℕ) → Demand p n (stop_of p engine n)
demanded p zero n = by_events_lem p n
demanded p (suc e) n = by_steps_lem p n

kept : (p : Plan) (engine n m : ℕ) → n ≤ m → Kept (stop_of p engine n).sessions (stop_of p engine m).sessions
kept p engine n m h =
    let e : n + (m - n) ≡ m = omega arith in
    rw (← e) (more engine)
  where
    more : (engine : ℕ) → Kept (stop_of p engine n).sessions (stop_of p engine (n + (m - n))).sessions
    more zero = kept_by_events p n (m - n)
    more (suc k) = kept_by_steps p n (m - n)

-- ---- the sentences

-- all of them, in the order in which the calls promise them
pub record Promises (plan : List ℕ) (engine n : ℕ) (book : List ℕ) (r : Result Totals Refusal) : Type 0 where
  pub back : ReadsBack plan engine n book r
  pub units : UnitsUsed plan engine n r
  pub free : FreeKnown plan engine n r
  pub settled : NoFreeFits plan engine n r
  pub spots : OneSpot plan engine n r
  pub ids : OneById plan engine n book r
  pub counts : AddUp plan engine n r
  pub outcomes : CountsOfBook plan engine n book r
  pub closed : ClosedStay plan engine n book r
  pub waits : ExactWaits plan engine n r
  pub handled : Handled plan engine n r
  pub events : EventsEnd plan engine n r
  pub steps : StepsEnd plan engine n r
  pub shares : SharedEvenly plan engine r
  pub hot_day : HotDayOfRun plan r
  pub rating : BookByRating plan engine book r
  pub fleets : FleetsWithin plan engine n r
  pub carried : FleetsCarried plan book r
  pub no_fleets : AsBefore plan r
  pub no_limit : LimitIgnored plan engine r

-- the bytes of the book
pub book_bytes_lem : (plan : List ℕ) (engine n : ℕ) (old book : List ℕ) (r : Result Totals Refusal) → book ≡ book_after plan engine n r old
    → OfRun (λ t. book ≡ written (book_of plan engine (stop_of (read_plan plan) engine n)) old) r
book_bytes_lem plan engine n old book (Err x) h = tt
book_bytes_lem plan engine n old book (Ok t) h = h

module _ (plan : List ℕ) (engine n : ℕ) (r : Result Totals Refusal) (runs : OfRun (Runs plan engine n) r) where
  holds : (P : Totals → Type 0) → P (run plan engine n) → OfRun P r
  holds P h = of_map (λ t k. subst P (sym k.counts) h) r runs

  abbrev all : Demand (read_plan plan) n (stop_of (read_plan plan) engine n)
  all = demanded (read_plan plan) engine n

  units_used : UnitsUsed plan engine n r
  units_used = holds _ all.units

  free_known : FreeKnown plan engine n r
  free_known = holds _ all.free_known

  no_free_fits : NoFreeFits plan engine n r
  no_free_fits = holds _ all.no_free_fits

  one_spot : OneSpot plan engine n r
  one_spot = holds _ all.one_spot

  add_up : AddUp plan engine n r
  add_up = holds _ (all.add_up ∙ vehicle-count plan)

  exact_waits : ExactWaits plan engine n r
  exact_waits = holds _ all.waits

  events_of_lem : engine ≡ 0 → EventDemand (read_plan plan) n (stop_of (read_plan plan) engine n)
  events_of_lem z = rw z (event_demand (read_plan plan) n)

  handled : Handled plan engine n r
  handled = holds _ (λ z. omega (arith, (events_of_lem z).handled, vehicle-count plan))

  events_end : EventsEnd plan engine n r
  events_end =
      holds _
      (λ z.
      let d = (events_of_lem z).ends in
      let v = vehicle-count plan in
      (λ h. d.0 (omega (arith, h, v)), λ h. omega (arith, d.1 h, v), d.2))

  steps_end : StepsEnd plan engine n r
  steps_end = holds _ (λ z. rw z (step_demand (read_plan plan) n).ends)

  hot_day : HotDayOfRun plan r
  hot_day = of_map (λ t k. hot_day_of_plan plan k.fine) r runs

  within : FleetsWithin plan engine n r
  within = of_map (λ t k. fleets_within plan engine n) r runs

  no_fleet : AsBefore plan r
  no_fleet = of_map (λ t k. no_fleets plan) r runs

  shared : SharedEvenly plan engine r
  shared = of_map (λ t k z. evenly plan) r runs

  ignored : LimitIgnored plan engine r
  ignored = of_map (λ t k z. no_limit (read_plan plan)) r runs

  -- ---- and those of the book

  module _ (old book : List ℕ) (b : book ≡ book_after plan engine n r old) (back : ReadsBack plan engine n book r) where
    one_id : OneById plan engine n book r
    one_id = of_both (λ t k h. one_by_id plan book engine n (plan_fine plan k.fine).0 h.sessions) r runs back

    counts_of_book : CountsOfBook plan engine n book r
    counts_of_book =
        of_both
        (λ t k h.
        let same : (o : ℕ) → _ = λ o. outcomes_of_run plan book (stop_of (read_plan plan) engine n).sessions o h.sessions in
        (ap (λ (u : Totals). u.still_open) k.counts ∙ same 0, ap (λ (u : Totals). u.charged) k.counts ∙ same 1, ap (λ (u : Totals). u.reneged) k.counts ∙ same 2, ap (λ (u : Totals). u.balked) k.counts ∙ same 3))
        r runs back

    -- what is known of the run, and its bytes
    runs_written : OfRun (λ t. Runs plan engine n t × (book ≡ written (book_of plan engine (stop_of (read_plan plan) engine n)) old)) r
    runs_written = of_both (λ t k h. (k, h)) r runs (book_bytes_lem plan engine n old book r b)

    -- a closed session stands at the same offset in the book of any longer run of the plan
    pub later_stays : OfRun (λ t. (m : ℕ) → n ≤ m → (buffer : List ℕ) (k : ℕ) → k < session_count book → 1 ≤ outcome_at book k
        → let second = written (book_of plan engine (stop_of (read_plan plan) engine m)) buffer in
        (k < session_count second) × (session_at second k ≡ session_at book k)) r
    unfolding book_of
    later_stays =
        of_both {P = λ t. Runs plan engine n t × (book ≡ written (book_of plan engine (stop_of (read_plan plan) engine n)) old)}
        (λ t k h m less buffer i inside low.
        let now = stop_of (read_plan plan) engine n in
        let later = stop_of (read_plan plan) engine m in
        let blocks = (plan_fine plan k.0.fine).0 in
        rw k.1
        (closed_stays plan engine (tick now.ended) now.used (tick later.ended) later.used now.sessions later.sessions old buffer (kept (read_plan plan) engine n m less) (few_sessions plan engine m blocks)
        (rw k.1 at h.count) (rw k.1 at h.sessions) i (rw k.1 at inside) (rw k.1 at low)))
        r runs_written back

    closed-stay : ClosedStay plan engine n book r
    closed-stay =
        of_both
        (λ t k stays m less most buffer room i inside low high.
        rw (answered plan engine m (length buffer) k.fine k.either most room) (stays m less buffer i inside low))
        r runs later_stays

    -- by events its charged sessions say what charging takes
    book_rated : BookByRating plan engine book r
    book_rated = of_map (λ t h z. book_by_rating plan n _ (h.sessions ∙ ap (λ (e : ℕ). book_sessions plan (stop_of (read_plan plan) e n).sessions) z)) r back

    carried : FleetsCarried plan book r
    carried = of_both (λ t k h. fleets_carried plan (plan_fine plan k.fine).0 engine n book h.count h.sessions) r runs back

    pub promised : Promises plan engine n book r
    promised =
        record {
          back = back;
          units = units_used;
          free = free_known;
          settled = no_free_fits;
          spots = one_spot;
          ids = one_id;
          counts = add_up;
          outcomes = counts_of_book;
          closed = closed-stay;
          waits = exact_waits;
          handled = handled;
          events = events_end;
          steps = steps_end;
          shares = shared;
          hot_day = hot_day;
          rating = book_rated;
          fleets = within;
          carried = carried;
          no_fleets = no_fleet;
          no_limit = ignored;
        }

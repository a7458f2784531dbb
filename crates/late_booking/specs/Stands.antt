-- Rules. Request 7, sentence by sentence, of a car that was booked late: what was done stands, and the run goes on as one planned in full.
use Rattle.std.specs.Prelude.{ℕ, ◌+◌, ◌*◌, ◌≤◌, ◌<◌, ◌≡◌, true, false, List, ◌∷◌, ◌++◌, length, take, drop, Result, Ok}
use Rattle.engine.specs.Events.{arrival, renege, Ordered}
use Rattle.engine.specs.Discrete.{run}
use Rattle.engine.specs.Demand.{by_events}
use Rattle.plan.specs.Bytes.{le_at}
use Rattle.plan.specs.Blocks.{passes, block}
use Rattle.plan.specs.Places.{vehicle_count}
use Rattle.files.specs.Read.{read_plan}
use Rattle.files.specs.Check.{OfFine}
use Rattle.files.specs.Book.{written}
use Rattle.files.specs.Call.{totals, book_of}
use Rattle.dump.specs.EventBlocks.{event_bytes}
use Rattle.dump.specs.Dump.{dump_of, handled_in, events_in, session_count, session_at}
use Rattle.dump.specs.Call.{continued_answer, continued_book}
use Rattle.late_booking.specs.LongerPlan.{longer}
use Rattle.late_booking.specs.LateCar.{arrival_in, car_of, with_car}
use Rattle.plan.specs.declared.answer.Refusal.{Refusal}

-- the second list is the first with a and, behind it, b put in
pub record PutIn {A : Type 0} (a b : A) (old new : List A) : Type 0 where
  pub first : List A
  pub between : List A
  pub last : List A
  pub was : old ≡ first ++ (between ++ last)
  pub now : new ≡ first ++ (a ∷ (between ++ (b ∷ last)))

module _ (plan dump car : List ℕ) where
  -- ---- of the run by the rules

  -- the run of the longer plan after the same handled count is that of the plan, with the car's arrival and renege pending besides: queue,
  -- busy chargers, sessions and used are the old ones
  abbrev pub RunStands : Result (Unit {0}) Refusal → Type 0
  RunStands =
      OfFine
      (run (read_plan (longer plan car)) (handled_in dump) ≡ with_car (vehicle_count plan) (car_of plan car) (run (read_plan plan) (handled_in dump)))

  -- its events stand in the order in which they pop
  abbrev pub InOrder : Result (Unit {0}) Refusal → Type 0
  InOrder = OfFine (Ordered (run (read_plan (longer plan car)) (handled_in dump)).site.pending)

  -- one vehicle more is yet to arrive, so the run has not ended; every other count is the old one
  abbrev pub OneMoreToArrive : Result (Unit {0}) Refusal → Type 0
  OneMoreToArrive =
      OfFine
      (let old = totals (by_events (read_plan plan) (handled_in dump)) in
      totals (by_events (read_plan (longer plan car)) (handled_in dump))
      ≡ record {
        used = old.used;
        ended = false;
        yet_to_arrive = old.yet_to_arrive + 1;
        queued = old.queued;
        still_open = old.still_open;
        charged = old.charged;
        reneged = old.reneged;
        balked = old.balked;
      })

  -- ---- of the new dump's bytes

  module _ (new : List ℕ) where
    -- it never exceeds 16,384 bytes, and each of its blocks has the check of its place
    abbrev pub WholeDump : Result (Unit {0}) Refusal → Type 0
    WholeDump =
        OfFine
        ((length (dump_of (longer plan car) (handled_in dump)) ≤ 16384)
        × ((k : ℕ) → 512 * k < length (dump_of (longer plan car) (handled_in dump)) → passes (k + 1) (block new k) ≡ true))

    -- the header is the old one, but for the count of events at 8 and the check: letters, counts of queued, busy and sessions, used, the
    -- queue and the busy chargers
    abbrev pub HeaderStands : Result (Unit {0}) Refusal → Type 0
    HeaderStands = OfFine ((take 8 new ≡ take 8 dump) × (take 498 (drop 10 new) ≡ take 498 (drop 10 dump)))

    -- each session has its old 96 bytes
    abbrev pub SessionsStand : Result (Unit {0}) Refusal → Type 0
    SessionsStand = OfFine ((k : ℕ) → k < session_count dump → session_at new k ≡ session_at dump k)

    -- the events are the old ones with the car's arrival and renege
    abbrev pub EventsJoined : Result (Unit {0}) Refusal → Type 0
    EventsJoined =
        OfFine
        (let v = vehicle_count plan in
        PutIn (event_bytes plan (arrival (arrival_in car) v)) (event_bytes plan (renege (arrival_in car + le_at 8 car 48) v)) (events_in dump) (events_in new))

    -- ---- of the run that goes on from it

    -- continued with the longer plan, in whatever buffers, it has every count and the book of the run that was planned in full
    abbrev pub PlannedInFull : Result (Unit {0}) Refusal → Type 0
    PlannedInFull =
        OfFine
        ((further : ℕ) → further ≤ 10000000 → (book : List ℕ) → 7168 ≤ length book
        → let stop = by_events (read_plan (longer plan car)) (handled_in dump + further) in
        (continued_answer (longer plan car) new further (length book) ≡ Ok (totals stop))
        × (continued_book (longer plan car) new further book ≡ written (book_of (longer plan car) 0 stop) book))

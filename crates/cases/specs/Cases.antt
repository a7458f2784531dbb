-- Rules. M1 to M12 of the paper's bay, and requests 8, 1, 5, 7, 9, 10, 11 and 12 at it, worked through: one list of cases, each with what it gives.
use Rattle.std.specs.Prelude.{ℕ, ◌+◌, ◌-◌, ◌*◌, ◌^◌, ◌≡◌, Bool, true, false, List, [], ◌∷◌, ◌++◌, length, map, Float, set, Result as Answered, Ok, Err}
use Rattle.curve.specs.F64.{◌⊗◌, ratio}
use Rattle.curve.specs.Curve.{integrate_over, curve_of}
use Rattle.curve.specs.declared.points.Point.{Point}
use Rattle.curve.specs.declared.charge_profile.ChargingOutput.{ChargingOutput}
use Rattle.curve.specs.declared.units.Kw.{Kw}
use Rattle.curve.specs.declared.units.Kwh.{Kwh}
use Rattle.curve.specs.declared.units.Seconds.{Seconds}
use Rattle.power.specs.declared.power.Limit.{Limit}
use Rattle.power.specs.declared.power.Limit.TheVariants.{AtMost, Shared}
use Rattle.shares.specs.Watts.{watts_of}
use Rattle.shares.specs.Shares.{shares}
use Rattle.engine.specs.declared.session.Session.{Session}
use Rattle.engine.specs.declared.session.Outcome.TheVariants.{Charged, Reneged, Balked}
use Rattle.power.specs.declared.charger_state.Status.{Status}
use Rattle.power.specs.declared.charger_state.Status.TheVariants.{Charging, Idle}
use Rattle.power.specs.declared.charger_state.ChargerState.{ChargerState}
use Rattle.engine.specs.SiteState.{uncharged}
use Rattle.power.specs.ChargerState.{hours}
use Rattle.power.specs.Power.{allocate}
use Rattle.engine.specs.Demand.{Stop}
use Rattle.plan.specs.Bytes.{le_at}
use Rattle.plan.specs.Fields.{f64_at}
use Rattle.plan.specs.Places.{vehicle_count, vehicle_block}
use Rattle.plan.specs.Search.{each}
use Rattle.files.specs.Read.{read_plan}
use Rattle.files.specs.Check.{check_plan}
use Rattle.files.specs.BookSession.{bits}
use Rattle.files.specs.Book.{book_bytes}
use Rattle.files.specs.Call.{stop_of, book_of}
use Rattle.files.specs.declared.book_session.BookSession.{BookSession}
use Rattle.plan.specs.declared.answer.Rule.TheVariants.{Field}
use Rattle.plan.specs.declared.answer.Refusal.{Refusal}
use Rattle.plan.specs.declared.answer.Refusal.TheVariants.{AllowanceAbove, Broken, CannotCharge, BookDamaged, BookAgainstRules, NotLater, NoPracticeDay}
use Rattle.dump.specs.Dump.{dump_of, handled_in}
use Rattle.late_booking.specs.LongerPlan.{longer}
use Rattle.late_booking.specs.Call.{late_answer}
use Rattle.book_reader.specs.Reader.{Reading, contents, read_book, session_numbers}
use Rattle.book_reader.specs.Reader as R
use Rattle.practice.specs.Xorshift.{draw}
use Rattle.practice.specs.PracticePlan.{practice_plan}
use Rattle.practice.specs.Call.{practice_answer}
use Rattle.panel.specs.declared.panel.AccessRefusal.{AccessRefusal}
use Rattle.panel.specs.declared.panel.AccessRefusal.TheVariants.{Outside, ReadOnly}
use Rattle.panel.specs.declared.script.Operation.{Operation}
use Rattle.panel.specs.declared.script.Operation.TheVariants.{Rounds, Read, Write, Line}
use Rattle.panel.specs.Panel.{start}
use Rattle.panel.specs.Script.{answer_bytes, played}
use Rattle.panel.specs.Call.{panel_answer}
use Rattle.cases.specs.Bay.{kw, kwh, seconds, percent, point, plan, bay, second_car, at_target, two_at_target, at_target_under, three_tenths, at_one_kw, nacs_capped, vans, late_car}

-- ---- what a case is, and what it gives

-- the engines by the paper's numbers
abbrev pub events : ℕ
events = 0

abbrev pub steps : ℕ
steps = 1

pub data Case : Type 0 where
  -- a run by an engine, under an allowance, of a plan's bytes
  run : ℕ → ℕ → List ℕ → Case
  -- a battery charged along a profile's points, from a SOC to a SOC, under a power cap
  charge : Kwh → List Point → Float → Float → Kw → Case
  -- power allocated to the bay's chargers under a site limit
  allot : Limit → List ChargerState → Case
  -- a power in whole watts
  watts : Float → Case
  -- requests in whole watts under a limit that they share evenly
  share : List ℕ → ℕ → Case
  -- a run of a plan's bytes by events, dumped after so many of them
  dump : ℕ → List ℕ → Case
  -- a book's bytes read back
  read_back : List ℕ → Case
  -- a car's block booked into a run of a plan's bytes by events, dumped after so many of them
  book_late : ℕ → List ℕ → List ℕ → Case
  -- the first draws from a seed
  draws : ℕ → ℕ → Case
  -- a practice day of a plan's bytes, from a seed, of so many cars
  practice : ℕ → ℕ → List ℕ → Case
  -- operations on a panel beside a run by steps of a plan's bytes
  board : List Operation → List ℕ → Case

-- a car of a practice day: its id, and what was drawn
pub record Drawn : Type 0 where
  pub id : ℕ
  pub arrival : ℕ
  pub start : Float
  pub target : Float

pub data Result : Type 0 where
  -- the plan is fine; units used, ended, sessions
  stopped : ℕ → Bool → List Session → Result
  -- the plan, the book or the car is refused
  refused : Refusal → Result
  -- duration, energy, peak
  takes : ChargingOutput → Result
  -- a power cap for each charger
  caps : List Kw → Result
  -- whole watts
  in_watts : List ℕ → Result
  -- a dump's handled count, the queue's blocks, the busy chargers' blocks with their vehicles', the events' times, kinds and blocks
  shows : ℕ → List ℕ → List ℕ → List (List ℕ) → Result
  -- a book's engine, ended and used, and the sixteen numbers of each session
  holds : ℕ → ℕ → ℕ → List (List ℕ) → Result
  -- numbers that were drawn
  drawn : List ℕ → Result
  -- the cars of a practice day
  comes : List Drawn → Result
  -- the answers and bytes of operations
  plays : List ℕ → Result

abbrev pub if_fine : Answered (Unit {0}) Refusal → Stop → Result
if_fine (Ok u) s = stopped s.used s.ended s.sessions
if_fine (Err x) s = refused x

-- m 16-bit numbers of a dump, from a place on
abbrev pub words_at : List ℕ → ℕ → ℕ → List ℕ
words_at b at m = each (λ k. le_at 2 b (at + 2 * k)) 0 m

-- its first m events, which follow the header
abbrev pub events_at : List ℕ → ℕ → List (List ℕ)
events_at b m = each (λ k. le_at 8 b (512 + 16 * k) ∷ le_at 1 b (520 + 16 * k) ∷ le_at 2 b (522 + 16 * k) ∷ []) 0 m

abbrev pub shown : List ℕ → Result
shown b = shows (handled_in b) (words_at b 24 (le_at 2 b 4)) (words_at b 152 (2 * le_at 2 b 6)) (events_at b (le_at 2 b 8))

abbrev pub back_from : Reading → Result
back_from (R.refused x) = refused x
back_from (contents c) = holds c.engine c.ended c.used (map session_numbers c.sessions)

-- the new dump of a car that was booked
abbrev pub if_booked : Answered (Unit {0}) Refusal → List ℕ → Result
if_booked (Ok u) new = shown new
if_booked (Err x) new = refused x

-- the cars that a plan's vehicles are
abbrev pub drawn_cars : List ℕ → List Drawn
drawn_cars plan =
    each
    (λ v. let b = vehicle_block plan v in
    record { id = le_at 4 b 0; arrival = le_at 8 b 40; start = f64_at b 16; target = f64_at b 24 })
    0 (vehicle_count plan)

abbrev pub if_made : Answered (Unit {0}) Refusal → List ℕ → Result
if_made (Ok u) plan = comes (drawn_cars plan)
if_made (Err x) plan = refused x

-- the number that stands for an operation
abbrev pub word : Operation → ℕ
word (Rounds n) = n * 2 ^ 32
word (Read a) = a * 2 ^ 32 + 1
word (Write a byte) = a * 2 ^ 32 + byte * 256 + 2
word (Line c) = c * 2 ^ 32 + 3

abbrev pub script : List Operation → List ℕ
script os = map word os

abbrev pub if_played : Answered (Unit {0}) Refusal → List ℕ → Result
if_played (Ok u) out = plays out
if_played (Err x) out = refused x

unfoldable pub result : Case → Result
result (run engine allowance plan) = if_fine (check_plan plan) (stop_of (read_plan plan) engine allowance)
result (charge battery points start target cap) = takes (integrate_over (curve_of points) battery start target cap)
result (allot limit states) = caps (map (λ (s : ChargerState). s.cap) (allocate limit (λ k. curve_of bay.points) states))
result (watts x) = in_watts (watts_of x ∷ [])
result (share requests limit) = in_watts (shares requests limit)
result (dump n plan) = shown (dump_of plan n)
result (read_back book) = back_from (read_book book)
result (book_late n plan car) = if_booked (late_answer plan (dump_of plan n) car 16384) (dump_of (longer plan car) n)
result (draws seed n) = drawn (each (draw seed) 1 n)
result (practice seed count plan) = if_made (practice_answer plan seed count 57856) (practice_plan plan seed count)
result (board os plan) = if_played (panel_answer plan (script os) (2 * length os)) (played plan (read_plan plan) (script os) (start (read_plan plan)))

infix 68 ◌gives◌
pub data Worked : Type 0 where
  ◌gives◌ : Case → Result → Worked

abbrev pub Holds : Worked → Type 0
Holds (case gives wanted) = result case ≡ wanted

-- ---- the words of the list

-- a run that has ended, and one that its allowance cut, after so many units
abbrev pub ended : ℕ → List Session → Result
ended used sessions = stopped used true sessions

abbrev pub cut : ℕ → List Session → Result
cut used sessions = stopped used false sessions

abbrev pub output : Seconds → Kwh → Kw → ChargingOutput
output duration energy peak = record { duration = duration; energy = energy; peak = peak }

-- a vehicle's session, by its place from 0: plug-in, unplug, wait, what charging took, idle
abbrev pub charged : ℕ → ℕ → ℕ → ℕ → ChargingOutput → Seconds → Session
charged v plugin unplug wait took idle =
    record {
      vehicle = v;
      outcome = Charged;
      charger = 0;
      plugin = plugin;
      unplug = unplug;
      wait = wait;
      duration = took.duration;
      idle = idle;
      peak = took.peak;
      energy = took.energy;
    }

-- by its arrival and the time at which it reneges
abbrev pub reneged : ℕ → ℕ → ℕ → Session
reneged v arrival time = uncharged v Reneged (time - arrival)

abbrev pub balked : ℕ → Session
balked v = uncharged v Balked 0

-- 25 kWh at 50 kW: 1,800 s
abbrev pub half_hour : ChargingOutput
half_hour = output (seconds 1800) (kwh 25) (kw 50)

-- the first car of M1 to M5: plug-in 100, unplug 2,020
abbrev pub first_car : Session
first_car = charged 0 100 2020 0 half_hour (seconds 120)

-- M7: points (0, 100), (0.5, 100), (1, 50)
abbrev pub tapering : List Point
tapering = point (percent 0) (kw 100) ∷ point (percent 50) (kw 100) ∷ point (percent 100) (kw 50) ∷ []

-- M8 and M9: a car that asks for 50 kW at a 50 kW charger, with its cap from the round before
abbrev pub asks50 : Status → Kw → ChargerState
asks50 status cap =
    record {
      status = status;
      profile = 0;
      session = 0;
      soc = percent 25;
      target = percent 75;
      battery = kwh 50;
      rated = kw 50;
      requested = kw 0;
      cap = cap;
      idle = seconds 120;
      energy = kwh 0;
      peak = kw 0;
      vehicle = 0;
    }

-- M10: half a second, with one round's energy at a power, of 50 kW without a limit
abbrev pub one_round_at : Kw → ChargingOutput
one_round_at power = output (record { 0 = ratio 1 2 }) (record { 0 = power.0 ⊗ hours }) power

abbrev pub one_round : ChargingOutput
one_round = one_round_at (kw 50)

-- request 10: so many watts
abbrev pub watt : ℕ → Kw
watt n = record { 0 = ratio n 1000 }

-- request 5: the book of M1, and its session at a connector
abbrev pub first_car_at : ℕ → BookSession
first_car_at code =
    record {
      vehicle_id = 4;
      profile_id = 2;
      charger_id = 3;
      connector = code;
      outcome = 1;
      fleet = 0;
      arrival = 100;
      plugin = 100;
      unplug = 2020;
      wait = 0;
      duration = bits (ratio 1800 1);
      idle = bits (ratio 120 1);
      peak = bits (ratio 50 1);
      energy = bits (ratio 25 1);
      start = bits (ratio 1 4);
      end = bits (ratio 3 4);
    }

abbrev pub first_book : ℕ → List ℕ
first_book code = book_bytes events 1 3 (first_car_at code ∷ [])

-- request 12: what operations answer
abbrev pub answers : List (Answered ℕ AccessRefusal) → Result
answers xs = plays (in_bytes xs)
  where
    in_bytes : List (Answered ℕ AccessRefusal) → List ℕ
    in_bytes [] = []
    in_bytes (x ∷ xs) = answer_bytes x ++ in_bytes xs

-- ---- the list

unfoldable pub worked : List Worked
worked =
    -- M1 by events: duration 1,800 s, 25 kWh; arrival 100, unplug 2,020
    run events 10 (plan bay) gives ended 3 (first_car ∷ []) ∷
    -- M2 by events, a second car at 200: wait 1,800 reneges at 2,000, handled 5
    run events 10 (plan (second_car 1800 10)) gives ended 5 (first_car ∷ reneged 1 200 2000 ∷ []) ∷
    -- M3 wait 1,820 plugs at 2,020, handled 6 (request 4)
    run events 10 (plan (second_car 1820 10)) gives ended 6 (first_car ∷ charged 1 2020 3940 1820 half_hour (seconds 120) ∷ []) ∷
    -- M4 wait 1,821 plugs at 2,020, unplugs 3,940, handled 6
    run events 10 (plan (second_car 1821 10)) gives ended 6 (first_car ∷ charged 1 2020 3940 1820 half_hour (seconds 120) ∷ []) ∷
    -- M5 its queue limit 0: balks, handled 5
    run events 10 (plan (second_car 1800 0)) gives ended 5 (first_car ∷ balked 1 ∷ []) ∷
    -- M6 allowance 0 uses 0
    run events 0 (plan bay) gives cut 0 [] ∷
    run steps 0 (plan bay) gives cut 0 [] ∷
    -- M7 cap 75, SOC 0.5 to 1: 1,440 s; 25 kWh, 62.5 kW
    charge (kwh 50) tapering (percent 50) (percent 100) (kw 75) gives takes (output (seconds 1440) (kwh 25) (record { 0 = ratio 125 2 })) ∷
    -- M8 two 50 kW requests: limit 100 gives caps of 50 each
    allot (AtMost (kw 100)) (asks50 Charging (kw 25) ∷ asks50 Charging (kw 25) ∷ []) gives caps (kw 50 ∷ kw 50 ∷ []) ∷
    -- M9 limit 50, the second car Idle, gives the charging car a cap of 50 (request 6)
    allot (AtMost (kw 50)) (asks50 Charging (kw 25) ∷ asks50 Idle (kw 25) ∷ []) gives caps (kw 50 ∷ kw 50 ∷ []) ∷
    -- M10 steps: unplug 2, charge duration 0.5, used 3
    run steps 10 (plan at_target) gives ended 3 (charged 0 0 2 0 one_round (record { 0 = ratio 3 2 }) ∷ []) ∷
    -- M11 by events: unplug 2, duration 0
    run events 10 (plan at_target) gives ended 3 (charged 0 0 2 0 (output (seconds 0) (kwh 0) (kw 0)) (record { 0 = ratio 3 2 }) ∷ []) ∷
    -- M12 battery 168: 604,800 accepted; 169 refused by 12, the vehicle's block 4 and the charger's block 3
    run events 10 (plan (at_one_kw (kwh 168))) gives ended 3 (charged 0 100 605020 0 (output (seconds 604800) (kwh 168) (kw 1)) (seconds 120) ∷ []) ∷
    run events 10 (plan (at_one_kw (kwh 169))) gives refused (CannotCharge 4 3) ∷
    -- request 8: a lead of 62.5 A, at 400 V 25 kW, takes the hour; one of half an ampere is refused by 7, the charger's block 3
    run events 10 (plan (nacs_capped (record { 0 = ratio 125 2 }))) gives ended 3 (charged 0 100 3820 0 (output (seconds 3600) (kwh 25) (kw 25)) (seconds 120) ∷ []) ∷
    run events 10 (plan (nacs_capped (record { 0 = ratio 1 2 }))) gives refused (Broken Field 3) ∷
    -- request 1: M2 after both arrivals, the charger of block 3 with the car of block 4, that of block 5 queued; M1 once it has ended
    dump 2 (plan (second_car 1800 10)) gives shows 2 (5 ∷ []) (3 ∷ 4 ∷ []) ((1900 ∷ 1 ∷ 4 ∷ []) ∷ (2000 ∷ 1 ∷ 5 ∷ []) ∷ (2020 ∷ 2 ∷ 3 ∷ []) ∷ []) ∷
    dump 10 (plan bay) gives shows 3 [] [] [] ∷
    -- request 5: the book of M1 gives its session back; with a byte changed it is refused by 15, with a connector of 6 by 16
    read_back (book_of (plan bay) events (stop_of (read_plan (plan bay)) events 10)) gives holds events 1 3 (session_numbers (first_car_at 5) ∷ []) ∷
    read_back (set (first_book 5) 512 5) gives refused BookDamaged ∷
    read_back (first_book 6) gives refused BookAgainstRules ∷
    -- request 7: M2's second car booked into M1 after its first event, at 100: its arrival and renege stand among the others; one at 100 is refused by 18
    book_late 1 (plan bay) (late_car 200) gives
    shows 1 [] (3 ∷ 4 ∷ []) ((200 ∷ 0 ∷ 5 ∷ []) ∷ (1900 ∷ 1 ∷ 4 ∷ []) ∷ (2000 ∷ 1 ∷ 5 ∷ []) ∷ (2020 ∷ 2 ∷ 3 ∷ []) ∷ []) ∷
    book_late 1 (plan bay) (late_car 100) gives refused NotLater ∷
    -- request 9: of two vans of a fleet with one place the first waits and plugs in at 2,020, and the second balks; fleet 65 is refused by 7, the
    -- first van's block 5, and a fleet of 65 places too, the header
    run events 10 (plan (vans 1 1)) gives ended 8 (first_car ∷ balked 2 ∷ charged 1 2020 3940 1820 half_hour (seconds 120) ∷ []) ∷
    run events 10 (plan (vans 65 1)) gives refused (Broken Field 5) ∷
    run events 10 (plan (vans 1 65)) gives refused (Broken Field 1) ∷
    -- request 10: the odd watt goes to the first place; a small request has its own, and the others share the rest; requests that fit; fewer watts than cars
    share (1000 ∷ 1000 ∷ 1000 ∷ []) 1000 gives in_watts (334 ∷ 333 ∷ 333 ∷ []) ∷
    share (100 ∷ 500 ∷ 900 ∷ []) 1001 gives in_watts (100 ∷ 451 ∷ 450 ∷ []) ∷
    share (100 ∷ 500 ∷ 900 ∷ []) 1500 gives in_watts (100 ∷ 500 ∷ 900 ∷ []) ∷
    share (5 ∷ 0 ∷ 5 ∷ 5 ∷ []) 2 gives in_watts (1 ∷ 0 ∷ 1 ∷ 0 ∷ []) ∷
    -- the f64 of 0.3 kW is a little less than 300 W
    watts (ratio 3 10) gives in_watts (299 ∷ []) ∷
    -- 1 kW among three that charge, and an Idle car at the second place; two requests of 50 kW that just fit
    allot (Shared 1000) (asks50 Charging (kw 25) ∷ asks50 Idle (kw 25) ∷ asks50 Charging (kw 25) ∷ asks50 Charging (kw 25) ∷ []) gives
    caps (watt 334 ∷ watt 0 ∷ watt 333 ∷ watt 333 ∷ []) ∷
    allot (Shared 100000) (asks50 Charging (kw 25) ∷ asks50 Charging (kw 25) ∷ []) gives caps (kw 50 ∷ kw 50 ∷ []) ∷
    -- M10 under a limit of 0.3 kW, scaled and shared evenly; M11, which knows no limit; with byte 12 of 3 the header is refused by 7
    run steps 10 (plan (at_target_under (three_tenths 1))) gives ended 3 (charged 0 0 2 0 (one_round_at (record { 0 = ratio 3 10 })) (record { 0 = ratio 3 2 }) ∷ []) ∷
    run steps 10 (plan (at_target_under (three_tenths 2))) gives ended 3 (charged 0 0 2 0 (one_round_at (watt 299)) (record { 0 = ratio 3 2 }) ∷ []) ∷
    run events 10 (plan (at_target_under (three_tenths 2))) gives ended 3 (charged 0 0 2 0 (output (seconds 0) (kwh 0) (kw 0)) (record { 0 = ratio 3 2 }) ∷ []) ∷
    run steps 10 (plan (at_target_under (three_tenths 3))) gives refused (Broken Field 1) ∷
    -- request 11: the generator's first outputs for seed 1, and the bay's car twice by them; seed 0 and a plan of two cars are refused by 19
    draws 1 6 gives drawn (270369 ∷ 67634689 ∷ 2647435461 ∷ 307599695 ∷ 2398689233 ∷ 745495504 ∷ []) ∷
    practice 1 2 (plan bay) gives
    comes
    (record { id = 1; arrival = 11169; start = ratio 1 1024; target = ratio 709 1024 }
    ∷ record { id = 2; arrival = 15695; start = ratio 465 1024; target = ratio 976 1024 }
    ∷ []) ∷
    practice 0 2 (plan bay) gives refused NoPracticeDay ∷
    practice 1 2 (plan (second_car 1800 10)) gives refused NoPracticeDay ∷
    -- request 12: both bits enabled at M10's bay. After a round the cabinet is occupied and idle, started is pending and the line raised, and the
    -- car's id and energy show; started is cleared, and the line falls. After two more it is free, ended is pending, and the line raised
    board
    (Write 2 7 ∷ Read 2 ∷ Rounds 1 ∷ Read 0 ∷ Read 1 ∷ Line 0 ∷ Read 4 ∷ Read 15 ∷ Write 1 1 ∷ Read 1 ∷ Line 0 ∷ Rounds 2 ∷ Read 0 ∷ Read 1 ∷ Line 0 ∷ Read 4 ∷ Read 15 ∷ [])
    (plan at_target) gives
    answers (Ok 0 ∷ Ok 3 ∷ Ok 0 ∷ Ok 5 ∷ Ok 1 ∷ Ok 1 ∷ Ok 4 ∷ Ok 63 ∷ Ok 0 ∷ Ok 0 ∷ Ok 0 ∷ Ok 0 ∷ Ok 0 ∷ Ok 2 ∷ Ok 1 ∷ Ok 0 ∷ Ok 0 ∷ []) ∷
    -- with a second car that waits: in round 2 the first goes and it plugs in, both events in one round; ended is cleared, and comes again with it
    board
    (Rounds 2 ∷ Write 1 3 ∷ Read 1 ∷ Rounds 1 ∷ Read 1 ∷ Read 0 ∷ Read 4 ∷ Write 1 2 ∷ Read 1 ∷ Rounds 3 ∷ Read 0 ∷ Read 1 ∷ [])
    (plan two_at_target) gives
    answers (Ok 0 ∷ Ok 0 ∷ Ok 0 ∷ Ok 0 ∷ Ok 3 ∷ Ok 3 ∷ Ok 5 ∷ Ok 0 ∷ Ok 1 ∷ Ok 0 ∷ Ok 0 ∷ Ok 3 ∷ []) ∷
    -- a byte that cannot be written, and addresses past the bay's one cabinet; more than 10,000,000 rounds in all are refused by 2
    board (Write 0 1 ∷ Write 16 1 ∷ Read 16 ∷ Line 1 ∷ []) (plan at_target) gives answers (Err ReadOnly ∷ Err Outside ∷ Err Outside ∷ Err Outside ∷ []) ∷
    board (Rounds 9000000 ∷ Rounds 1000001 ∷ []) (plan at_target) gives refused AllowanceAbove ∷
    []

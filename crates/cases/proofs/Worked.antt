-- Every case of the list gives what the paper says, by computation from the plan's bytes. Assumes nothing.
use Prim.Native.Nat.{ℕ, ◌*◌}
use mathlib.Core.Path.{◌≡◌, refl, ap, ◌∙◌, subst}
use mathlib.Core.Bool.{Bool, true, false, cond, not}
use mathlib.Core.List.{List, [], ◌∷◌, append-nil}
use borrow.Author.Tests.{eq-eqb}
use lib.Dec.{leb, eqb}
use lib.ListN.{length, get_or}
use lib.IntN.{pos, negsuc}
use lib.Ieee.{fin, of_bits, to_bits, eq, lt, le, ne, add, sub, mul, div, of_int, to_unsigned}
use Rattle.curve.specs.F64.{ratio, ceiling}
use Rattle.curve.specs.Curve.{integrate_over, curve_of}
use Rattle.charger.specs.Lists.{All, none, also}
use Rattle.charger.specs.Vehicle.{compatible}
use Rattle.charger.specs.Fleet.{queued_of, fleet_full}
use Rattle.charger.specs.Charger.{no_charger, cap_of, actual_max_power}
use Rattle.engine.specs.Plan.{Plan, charger_at, fits, rated, output, stay}
use Rattle.engine.specs.Events.{before}
use Rattle.engine.specs.SiteState.{balks, uncharged, start_charging}
use Rattle.engine.specs.Discrete as D
use Rattle.power.specs.ChargerState.{empty, after_idling}
use Rattle.power.specs.ChargerState as C
use Rattle.power.specs.Power.{scaled_caps, even_caps, caps, allocate}
use Rattle.shares.specs.Watts.{watts_of, kilowatts_of}
use Rattle.shares.specs.Shares.{total, cut, highest, level, given, left_over, shares}
use Rattle.engine.specs.Timestep.{open_session, plugged, finalized, round}
use Rattle.engine.specs.Demand.{Stop}
use Rattle.plan.specs.Bytes.{le_at, bytes, fields, pieces}
use Rattle.plan.specs.Blocks.{words, check_of, sealed, passes, block, whole_blocks}
use Rattle.plan.specs.Search.{first_index, every, each}
use Rattle.plan.specs.Fields.{bytes_in, connectors_ok, cap_ok, point_count, point_ok}
use Rattle.plan.specs.Places.{kind_at, vehicle_count}
use Rattle.plan.specs.Plan.{id_at, with_id, new_soc, first_refusal, check_blocks}
use Rattle.files.specs.Read.{read_plan, points_of, curve_of_profile, battery_of, chargers_of, connector_rows, profile_index, vehicle_of, vehicle_in, vehicles_of, queue_places_of, limit_of}
use Rattle.files.specs.Pairs.{failing_charger, failing_pair}
use Rattle.files.specs.Check.{then_check, check_plan}
use Rattle.files.proofs.check.PairLaws.{plan_fine}
use Rattle.files.specs.Call.{stop_of, book_of}
use Rattle.files.specs.BookSession.{vehicle_number, charger_id, book_sessions, no_session}
use Rattle.files.specs.SessionBlocks.{session_bytes, slot, session_block, session_blocks, session_of, sessions_from}
use Rattle.files.specs.Book.{book_bytes, sessions_in}
use Rattle.files.specs.Book as B
use Rattle.dump.specs.EventBlocks.{event_bytes, event_slot, event_block, event_blocks}
use Rattle.dump.specs.Dump.{table, header_block, dump_bytes, dump_of, handled_in, is_dump}
use Rattle.dump.proofs.dump.Runs.{is_own}
use Rattle.plan.specs.Header.{counting, header_counting}
use Rattle.late_booking.specs.LongerPlan.{longer}
use Rattle.late_booking.specs.LateCar.{arrival_in, is_later}
use Rattle.late_booking.specs.Call.{booking_answer, late_answer}
use Rattle.book_reader.specs.Reader.{damaged, session_ok, rest_ok, against_rules, test_answer, read_book, session_numbers}
use Rattle.practice.specs.Xorshift.{step, draw}
use Rattle.practice.specs.PracticePlan.{car_bytes, car_block, practice_plan}
use Rattle.practice.specs.Call.{practice_answer}
use Rattle.panel.specs.declared.script.Operation.{Operation}
use Rattle.panel.specs.declared.script.Operation.TheVariants.{Rounds, Read, Write, Line}
use Rattle.panel.specs.Image.{image}
use Rattle.panel.specs.Panel.{start}
use Rattle.panel.specs.Script.{played}
use Rattle.panel.specs.Call.{panel_answer}
use Rattle.plan.specs.declared.answer.Refusal.TheVariants.{Broken, CannotCharge, NotLater, NoPracticeDay}
use Rattle.plan.specs.declared.answer.Rule.TheVariants.{Field}
use Rattle.engine.specs.declared.session.Session.{Session}
use Rattle.engine.specs.declared.session.Outcome.TheVariants.{Charged}
use Rattle.cases.specs.Bay.{kwh, Bay, plan, bay, second_car, at_target, two_at_target, at_target_under, three_tenths, at_one_kw, nacs_capped, vans, late_car}
use Rattle.cases.specs.Cases.{dump, refused, ended, charged, one_round, one_round_at, watt, events, steps, run, book_late, Result, if_fine, back_from, if_booked, if_made, board, script, if_played, Drawn, drawn_cars, comes, result, Worked, ◌gives◌, Holds, worked}
use Rattle.std.specs.Prelude.{Result as Answered, Ok, Err}
use Rattle.plan.specs.declared.answer.Refusal.{Refusal}

-- ---- a plan's bytes read, checked and run; each line `unfolding` has all that it computes by

read : Bay → Plan
unfolding plan block first_index each id_at with_id point_count
    points_of curve_of_profile battery_of chargers_of connector_rows profile_index vehicle_of vehicle_in vehicles_of queue_places_of limit_of
    charger_at no_charger compatible cap_of actual_max_power integrate_over curve_of of_bits eq lt le ne add sub mul div
read b = read_plan (plan b)

check : Bay → Answered (Unit {0}) Refusal
unfolding read passes every bytes_in connectors_ok cap_ok point_ok new_soc kind_at first_refusal whole_blocks check_blocks failing_charger failing_pair check_plan
check b = check_plan (plan b)

stop : ℕ → ℕ → Bay → Stop
unfolding read before start_charging balks fleet_full queued_of uncharged fits rated output stay ceiling D.step D.charged_session
    allocate caps scaled_caps even_caps C.after_charging after_idling empty open_session plugged finalized round of_int to_unsigned
stop engine n b = stop_of (read b) engine n

-- the dump of a plan's run
dumped : ℕ → Bay → List ℕ
unfolding stop dump_of dump_bytes header_block table event_blocks event_block event_slot event_bytes session_blocks session_block slot session_bytes no_session
    book_sessions vehicle_number charger_id sealed check_of words le_at bytes fields pieces to_bits
dumped n b = dump_of (plan b) n

-- a book read back
back : List ℕ → Result
unfolding stop dumped book_of book_bytes B.header_block read_book test_answer damaged against_rules session_ok rest_ok sessions_in sessions_from session_of session_numbers
    whole_blocks passes block every bytes_in
back b = back_from (read_book b)

-- ---- each plan is checked once

bay_fine : check bay ≡ Ok tt
unfolding check
bay_fine = refl

m2_fine : check (second_car 1800 10) ≡ Ok tt
unfolding check
m2_fine = refl

m3_fine : check (second_car 1820 10) ≡ Ok tt
unfolding check
m3_fine = refl

m4_fine : check (second_car 1821 10) ≡ Ok tt
unfolding check
m4_fine = refl

m5_fine : check (second_car 1800 0) ≡ Ok tt
unfolding check
m5_fine = refl

m10_fine : check at_target ≡ Ok tt
unfolding check
m10_fine = refl

two_fine : check two_at_target ≡ Ok tt
unfolding check
two_fine = refl

m12_fine : check (at_one_kw (kwh 168)) ≡ Ok tt
unfolding check
m12_fine = refl

m12_refused : check (at_one_kw (kwh 169)) ≡ Err (CannotCharge 4 3)
unfolding check
m12_refused = refl

lead_fine : check (nacs_capped (record { 0 = ratio 125 2 })) ≡ Ok tt
unfolding check
lead_fine = refl

lead_refused : check (nacs_capped (record { 0 = ratio 1 2 })) ≡ Err (Broken Field 3)
unfolding check
lead_refused = refl

vans_fine : check (vans 1 1) ≡ Ok tt
unfolding check
vans_fine = refl

fleet_refused : check (vans 65 1) ≡ Err (Broken Field 5)
unfolding check
fleet_refused = refl

places_refused : check (vans 1 65) ≡ Err (Broken Field 1)
unfolding check
places_refused = refl

scaled_fine : check (at_target_under (three_tenths 1)) ≡ Ok tt
unfolding check
scaled_fine = refl

shared_fine : check (at_target_under (three_tenths 2)) ≡ Ok tt
unfolding check
shared_fine = refl

mode_refused : check (at_target_under (three_tenths 3)) ≡ Err (Broken Field 1)
unfolding check
mode_refused = refl

-- ---- a late booking: with M2's second car M1's longer plan is M2's

-- a plan's dump after n events, and a car for which all tests but the last are passed
module _ (plan car : List ℕ) (n : ℕ) (fine : check_plan plan ≡ Ok tt) (one : length car ≡ 512) (room : leb 64 (vehicle_count plan) ≡ false) where
  own_dump : is_dump plan (dump_of plan n) ≡ true
  own_dump = subst (λ (b : List ℕ). is_dump plan b ≡ true) (append-nil (dump_of plan n)) (is_own plan (plan_fine plan fine).0 n [])

  by_arrival : {t : Bool} → is_later (read_plan plan) (handled_in (dump_of plan n)) (arrival_in car) ≡ t
      → late_answer plan (dump_of plan n) car 16384 ≡ cond (not t) (Err NotLater) (check_plan (longer plan car))
  unfolding late_answer booking_answer
  by_arrival later = rw (eq-eqb (length car) 512 one, fine, own_dump, room, later)

m2_longer : longer (plan bay) (late_car 200) ≡ plan (second_car 1800 10)
unfolding longer header_counting counting sealed check_of words le_at bytes plan
m2_longer = refl

late_fine : late_answer (plan bay) (dump_of (plan bay) 1) (late_car 200) 16384 ≡ Ok tt
unfolding check dumped
late_fine = by_arrival (plan bay) (late_car 200) 1 bay_fine refl refl {t = true} refl ∙ ap check_plan m2_longer ∙ m2_fine

late_refused : late_answer (plan bay) (dump_of (plan bay) 1) (late_car 100) 16384 ≡ Err NotLater
unfolding check dumped
late_refused = by_arrival (plan bay) (late_car 100) 1 bay_fine refl refl {t = false} refl

-- ---- a practice day of the bay

abbrev practice_day : ℕ → ℕ → List ℕ
practice_day seed count = practice_plan (plan bay) seed count

day_fine : practice_answer (plan bay) 1 2 57856 ≡ Ok tt
unfolding practice_answer plan le_at bytes check
day_fine = ap (λ a. then_check a (cond (not (eqb (vehicle_count (plan bay)) 1)) (Err NoPracticeDay) (Ok tt))) bay_fine

day_of_seed_0 : practice_answer (plan bay) 0 2 57856 ≡ Err NoPracticeDay
unfolding practice_answer check
day_of_seed_0 = ap (λ a. then_check a (Err NoPracticeDay)) bay_fine

day_of_two_cars : practice_answer (plan (second_car 1800 10)) 1 2 57856 ≡ Err NoPracticeDay
unfolding practice_answer plan le_at bytes check
day_of_two_cars = ap (λ a. then_check a (cond (not (eqb (vehicle_count (plan (second_car 1800 10))) 1)) (Err NoPracticeDay) (Ok tt))) m2_fine

abbrev first_drawn : List Drawn
first_drawn =
    record { id = 1; arrival = 11169; start = ratio 1 1024; target = ratio 709 1024 }
    ∷ record { id = 2; arrival = 15695; start = ratio 465 1024; target = ratio 976 1024 }
    ∷ []

day_drawn : drawn_cars (practice_day 1 2) ≡ first_drawn
unfolding practice_plan header_counting counting sealed check_of words pieces car_block car_bytes draw step block le_at bytes each plan to_bits of_bits ratio
day_drawn = refl

-- ---- a panel beside M10's run

abbrev car_comes : List Operation
car_comes =
    Write 2 7 ∷ Read 2 ∷ Rounds 1 ∷ Read 0 ∷ Read 1 ∷ Line 0 ∷ Read 4 ∷ Read 15 ∷ Write 1 1 ∷ Read 1 ∷ Line 0 ∷ Rounds 2 ∷ Read 0 ∷ Read 1 ∷ Line 0 ∷ Read 4 ∷ Read 15 ∷ []

abbrev car_goes : List Operation
car_goes = Rounds 2 ∷ Write 1 3 ∷ Read 1 ∷ Rounds 1 ∷ Read 1 ∷ Read 0 ∷ Read 4 ∷ Write 1 2 ∷ Read 1 ∷ Rounds 3 ∷ Read 0 ∷ Read 1 ∷ []

abbrev misses : List Operation
misses = Write 0 1 ∷ Write 16 1 ∷ Read 16 ∷ Line 1 ∷ []

play : List Operation → Bay → List ℕ
unfolding stop image vehicle_number le_at bytes to_bits
play os b = played (plan b) (read b) (script os) (start (read b))

allowed : List Operation → Bay → Answered (Unit {0}) Refusal
unfolding check panel_answer
allowed os b = panel_answer (plan b) (script os) (2 * length os)

-- a script whose rounds may be asked for is played where the plan is fine
by_board : (os : List Operation) (b : Bay) {a : Answered (Unit {0}) Refusal} {out : List ℕ} → allowed os b ≡ check b → check b ≡ a → play os b ≡ out
    → Holds (board os (plan b) gives if_played a out)
unfolding result check read play allowed
by_board os b {a} {out} some answer given = ap (λ x. if_played x (play os b)) (some ∙ answer) ∙ ap (if_played a) given

-- ---- the theorem

-- a run of a plan, by what its check answers
by : (engine n : ℕ) (b : Bay) {a : Answered (Unit {0}) Refusal} {r : Result} → check b ≡ a → if_fine a (stop engine n b) ≡ r → Holds (run engine n (plan b) gives r)
unfolding result check stop
by engine n b answer given = ap (λ a. if_fine a (stop engine n b)) answer ∙ given

-- a booking, by its answer and the longer plan
by_booking : (n : ℕ) (b : Bay) (car long : List ℕ) {a : Answered (Unit {0}) Refusal} {r : Result} → late_answer (plan b) (dump_of (plan b) n) car 16384 ≡ a → longer (plan b) car ≡ long
    → if_booked a (dump_of long n) ≡ r → Holds (book_late n (plan b) car gives r)
unfolding result
by_booking n b car long {a} answer same given =
    ap (λ a. if_booked a (dump_of (longer (plan b) car) n)) answer ∙ ap (λ (l : List ℕ). if_booked a (dump_of l n)) same ∙ given

infixr 67 ◌and◌
◌and◌ : {w : Worked} {ws : List Worked} → Holds w → All Holds ws → All Holds (w ∷ ws)
h and hs = also h hs

-- the case at a place of the list
abbrev at : ℕ → Worked
at k = get_or worked k (dump 0 [] gives refused NotLater)

case_0 : Holds (at 0)
unfolding worked result stop dumped back
case_0 = by events 10 bay bay_fine refl

case_1 : Holds (at 1)
unfolding worked result stop dumped back
case_1 = by events 10 (second_car 1800 10) m2_fine refl

case_2 : Holds (at 2)
unfolding worked result stop dumped back
case_2 = by events 10 (second_car 1820 10) m3_fine refl

case_3 : Holds (at 3)
unfolding worked result stop dumped back
case_3 = by events 10 (second_car 1821 10) m4_fine refl

case_4 : Holds (at 4)
unfolding worked result stop dumped back
case_4 = by events 10 (second_car 1800 0) m5_fine refl

case_5 : Holds (at 5)
unfolding worked result stop dumped back
case_5 = by events 0 bay bay_fine refl

case_6 : Holds (at 6)
unfolding worked result stop dumped back
case_6 = by steps 0 bay bay_fine refl

case_7 : Holds (at 7)
unfolding worked result stop dumped back
case_7 = refl

case_8 : Holds (at 8)
unfolding worked result stop dumped back
case_8 = refl

case_9 : Holds (at 9)
unfolding worked result stop dumped back
case_9 = refl

-- M10 by steps, with its floats worked out: half a second, an idle time of a second and a half, 50 kW, and what 50 kW give in a second
abbrev m10_session : Session
m10_session =
    record {
      vehicle = 0;
      outcome = Charged;
      charger = 0;
      plugin = 0;
      unplug = 2;
      wait = 0;
      duration = record { 0 = fin false 1 (negsuc 0) };
      idle = record { 0 = fin false 3 (negsuc 0) };
      peak = record { 0 = fin false 25 (pos 1) };
      energy = record { 0 = fin false 2001599834386887 (negsuc 56) };
    }

m10_run : if_fine (Ok tt) (stop steps 10 at_target) ≡ ended 3 (m10_session ∷ [])
unfolding stop
m10_run = refl

m10_wanted : m10_session ≡ charged 0 0 2 0 one_round (record { 0 = ratio 3 2 })
unfolding ratio mul div
m10_wanted = refl

case_10 : Holds (at 10)
unfolding worked result stop dumped back
case_10 = by steps 10 at_target m10_fine (m10_run ∙ ap (λ (s : Session). ended 3 (s ∷ [])) m10_wanted)

case_11 : Holds (at 11)
unfolding worked result stop dumped back
case_11 = by events 10 at_target m10_fine refl

case_12 : Holds (at 12)
unfolding worked result stop dumped back
case_12 = by events 10 (at_one_kw (kwh 168)) m12_fine refl

case_13 : Holds (at 13)
unfolding worked result stop dumped back
case_13 = by events 10 (at_one_kw (kwh 169)) m12_refused refl

case_14 : Holds (at 14)
unfolding worked result stop dumped back
case_14 = by events 10 (nacs_capped (record { 0 = ratio 125 2 })) lead_fine refl

case_15 : Holds (at 15)
unfolding worked result stop dumped back
case_15 = by events 10 (nacs_capped (record { 0 = ratio 1 2 })) lead_refused refl

case_16 : Holds (at 16)
unfolding worked result stop dumped back
case_16 = refl

case_17 : Holds (at 17)
unfolding worked result stop dumped back
case_17 = refl

case_18 : Holds (at 18)
unfolding worked result stop dumped back
case_18 = refl

case_19 : Holds (at 19)
unfolding worked result stop dumped back
case_19 = refl

case_20 : Holds (at 20)
unfolding worked result stop dumped back
case_20 = refl

case_21 : Holds (at 21)
unfolding worked result stop dumped back
case_21 = by_booking 1 bay (late_car 200) (plan (second_car 1800 10)) late_fine m2_longer refl

case_22 : Holds (at 22)
unfolding worked result stop dumped back
case_22 = by_booking 1 bay (late_car 100) (longer (plan bay) (late_car 100)) late_refused refl refl

case_23 : Holds (at 23)
unfolding worked result stop dumped back
case_23 = by events 10 (vans 1 1) vans_fine refl

case_24 : Holds (at 24)
unfolding worked result stop dumped back
case_24 = by events 10 (vans 65 1) fleet_refused refl

case_25 : Holds (at 25)
unfolding worked result stop dumped back
case_25 = by events 10 (vans 1 65) places_refused refl

case_26 : Holds (at 26)
unfolding worked result stop dumped back shares total cut highest level given left_over watts_of kilowatts_of
case_26 = refl

case_27 : Holds (at 27)
unfolding worked result stop dumped back shares total cut highest level given left_over watts_of kilowatts_of
case_27 = refl

case_28 : Holds (at 28)
unfolding worked result stop dumped back shares total cut highest level given left_over watts_of kilowatts_of
case_28 = refl

case_29 : Holds (at 29)
unfolding worked result stop dumped back shares total cut highest level given left_over watts_of kilowatts_of
case_29 = refl

case_30 : Holds (at 30)
unfolding worked result stop dumped back shares total cut highest level given left_over watts_of kilowatts_of
case_30 = refl

case_31 : Holds (at 31)
unfolding worked result stop dumped back shares total cut highest level given left_over watts_of kilowatts_of
case_31 = refl

case_32 : Holds (at 32)
unfolding worked result stop dumped back shares total cut highest level given left_over watts_of kilowatts_of
case_32 = refl

abbrev scaled_session : Session
scaled_session = record m10_session { peak = record { 0 = fin false 5404319552844595 (negsuc 53) }; energy = record { 0 = fin false 6148914691236517 (negsuc 65) } }

scaled_run : if_fine (Ok tt) (stop steps 10 (at_target_under (three_tenths 1))) ≡ ended 3 (scaled_session ∷ [])
unfolding stop shares total cut highest level given left_over watts_of kilowatts_of
scaled_run = refl

scaled_wanted : scaled_session ≡ charged 0 0 2 0 (one_round_at (record { 0 = ratio 3 10 })) (record { 0 = ratio 3 2 })
unfolding ratio mul div
scaled_wanted = refl

case_33 : Holds (at 33)
unfolding worked result stop dumped back shares total cut highest level given left_over watts_of kilowatts_of
case_33 = by steps 10 (at_target_under (three_tenths 1)) scaled_fine (scaled_run ∙ ap (λ (s : Session). ended 3 (s ∷ [])) scaled_wanted)

abbrev shared_session : Session
shared_session = record m10_session { peak = record { 0 = fin false 5386305154335113 (negsuc 53) }; energy = record { 0 = fin false 6128418308932395 (negsuc 65) } }

shared_run : if_fine (Ok tt) (stop steps 10 (at_target_under (three_tenths 2))) ≡ ended 3 (shared_session ∷ [])
unfolding stop shares total cut highest level given left_over watts_of kilowatts_of
shared_run = refl

shared_wanted : shared_session ≡ charged 0 0 2 0 (one_round_at (watt 299)) (record { 0 = ratio 3 2 })
unfolding ratio mul div
shared_wanted = refl

case_34 : Holds (at 34)
unfolding worked result stop dumped back shares total cut highest level given left_over watts_of kilowatts_of
case_34 = by steps 10 (at_target_under (three_tenths 2)) shared_fine (shared_run ∙ ap (λ (s : Session). ended 3 (s ∷ [])) shared_wanted)

case_35 : Holds (at 35)
unfolding worked result stop dumped back shares total cut highest level given left_over watts_of kilowatts_of
case_35 = by events 10 (at_target_under (three_tenths 2)) shared_fine refl

case_36 : Holds (at 36)
unfolding worked result stop dumped back shares total cut highest level given left_over watts_of kilowatts_of
case_36 = by steps 10 (at_target_under (three_tenths 3)) mode_refused refl

case_37 : Holds (at 37)
unfolding worked result draw step each
case_37 = refl

case_38 : Holds (at 38)
unfolding worked result
case_38 = ap (λ a. if_made a (practice_day 1 2)) day_fine ∙ ap comes day_drawn

case_39 : Holds (at 39)
unfolding worked result
case_39 = ap (λ a. if_made a (practice_day 0 2)) day_of_seed_0

case_40 : Holds (at 40)
unfolding worked result
case_40 = ap (λ a. if_made a (practice_plan (plan (second_car 1800 10)) 1 2)) day_of_two_cars

case_41 : Holds (at 41)
unfolding worked allowed play check
case_41 = by_board car_comes at_target refl m10_fine refl

case_42 : Holds (at 42)
unfolding worked allowed play check
case_42 = by_board car_goes two_at_target refl two_fine refl

case_43 : Holds (at 43)
unfolding worked allowed play check
case_43 = by_board misses at_target refl m10_fine refl

case_44 : Holds (at 44)
unfolding worked result panel_answer
case_44 = refl

pub worked_through : All Holds worked
unfolding worked
worked_through =
    case_0
    and case_1
    and case_2
    and case_3
    and case_4
    and case_5
    and case_6
    and case_7
    and case_8
    and case_9
    and case_10
    and case_11
    and case_12
    and case_13
    and case_14
    and case_15
    and case_16
    and case_17
    and case_18
    and case_19
    and case_20
    and case_21
    and case_22
    and case_23
    and case_24
    and case_25
    and case_26
    and case_27
    and case_28
    and case_29
    and case_30
    and case_31
    and case_32
    and case_33
    and case_34
    and case_35
    and case_36
    and case_37
    and case_38
    and case_39
    and case_40
    and case_41
    and case_42
    and case_43
    and case_44
    and none

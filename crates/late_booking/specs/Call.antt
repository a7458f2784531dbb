-- Rules. What the call `book_late` answers, and what it leaves in the buffer of the new dump.
use Rattle.std.specs.Prelude.{ℕ, cond, not, List, leb, ltb, eqb, length, Result, Ok, Err}
use Rattle.plan.specs.Places.{vehicle_count}
use Rattle.plan.specs.declared.answer.Rule.TheVariants.{Length}
use Rattle.plan.specs.declared.answer.Refusal.TheVariants.{Broken, DumpUnder, OtherDump, VehiclesFull, NotLater}
use Rattle.files.specs.Read.{read_plan}
use Rattle.files.specs.Check.{then_check, check_plan}
use Rattle.files.specs.Book.{written}
use Rattle.dump.specs.Dump.{dump_of, handled_in, is_dump}
use Rattle.late_booking.specs.LongerPlan.{longer}
use Rattle.late_booking.specs.LateCar.{arrival_in, is_later}
use Rattle.plan.specs.declared.answer.Refusal.{Refusal}

-- once the plan is fine: 14 not its dump, 17 there are 64 vehicles already, 18 the arrival is not later; then 4 to 12 by the longer plan
unfoldable pub booking_answer : List ℕ → List ℕ → List ℕ → Result (Unit {0}) Refusal
booking_answer plan dump car =
    cond (not (is_dump plan dump)) (Err OtherDump)
    (cond (leb 64 (vehicle_count plan)) (Err VehiclesFull)
    (cond (not (is_later (read_plan plan) (handled_in dump) (arrival_in car))) (Err NotLater)
    (check_plan (longer plan car))))

-- for a new dump's buffer of `space` bytes: 13 it is under 16,384, 4 the car's block is not of 512 bytes, 4 to 12 by the plan
unfoldable pub late_answer : List ℕ → List ℕ → List ℕ → ℕ → Result (Unit {0}) Refusal
late_answer plan dump car space =
    cond (ltb space 16384) (Err DumpUnder)
    (cond (not (eqb (length car) 512)) (Err (Broken Length 0))
    (then_check (check_plan plan) (booking_answer plan dump car)))

-- the dump of a plan after n events; a refused call leaves the buffer untouched
abbrev pub dumped_after : List ℕ → ℕ → Result (Unit {0}) Refusal → List ℕ → List ℕ
dumped_after plan n (Ok u) buffer = written (dump_of plan n) buffer
dumped_after plan n (Err x) buffer = buffer

-- what the call leaves in the buffer: the dump of the longer plan after the same handled count
abbrev pub new_dump_left : List ℕ → List ℕ → List ℕ → List ℕ → List ℕ
new_dump_left plan dump car buffer = dumped_after (longer plan car) (handled_in dump) (late_answer plan dump car (length buffer)) buffer

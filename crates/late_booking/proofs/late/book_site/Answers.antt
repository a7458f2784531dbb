-- `late_booking::late::book_site` meets its contract. Assumes nothing.
use mathlib.Core.Path.{◌≡◌, refl, sym, ap, ◌∙◌}
use mathlib.Core.Bool.{Bool, true}
use mathlib.Core.List.{List}
use Prim.Native.Nat.{ℕ, ◌≤◌, ◌<◌}
use native.Mathlib.Omega.{arith}
use borrow.Author.Tests.{le-leb, lt-leb}
use Rattle.engine.specs.Plan.{Plan}
use Rattle.files.specs.Read.{read_plan}
use Rattle.files.specs.Code.Reading.{Loaded}
use Rattle.files.proofs.Accepted.{counted}
use Rattle.files.proofs.call.RunLaws.{runnable}
use Rattle.files.proofs.call.BookDemand.{vehicle-count}
use Rattle.engine.specs.declared.discrete.State.{State}
use Rattle.engine.specs.declared.site.Site.{Site}
use Rattle.engine.specs.Discrete.{run}
use Rattle.engine.specs.Code.Simulation.{plan_of, model}
use Rattle.charger.specs.Code.Vehicles.{listed}
use lib.ListN.{length}
use Rattle.dump.specs.Dump.{dump_bytes, dump_of, handled_in, starts_with, is_dump}
use Rattle.dump.proofs.call.Laws.{dumpable, dump_shown}
use Rattle.dump.proofs.dump.Runs.{no_header}
use Rattle.late_booking.specs.LateCar.{arrival_in, is_later}
use Rattle.plan.specs.Places.{vehicle_count}
use Rattle.late_booking.specs.LongerPlan.{longer}
use Rattle.late_booking.specs.Call.{booking_answer, dumped_after}
use Rattle.late_booking.proofs.late.book_site.Goals as goal

-- what is compared is the dump at the count that the bytes name
compared : {plan : List ℕ} {site : Site} (l : Loaded plan site) (state : State) (n : ℕ) → model state ≡ run (plan_of site) n
    → (dump : List ℕ) → n ≡ handled_in dump → (t : Bool) → t ≡ starts_with (dump_bytes plan (model state)) dump → t ≡ is_dump plan dump
unfolding is_dump
compared {plan} l state n same dump e t h = h ∙ ap (λ (f : List ℕ). starts_with f dump) (dump_shown l state n same ∙ ap (dump_of plan) e)

-- whether the car comes late enough, said of the plan that was read, by the bytes of dump and car
told_late : {plan : List ℕ} {site : Site} → Loaded plan site → (dump car : List ℕ) (n arrival : ℕ) (later : Bool)
    → later ≡ is_later (plan_of site) n arrival → n ≡ handled_in dump → arrival ≡ arrival_in car
    → later ≡ is_later (read_plan plan) (handled_in dump) (arrival_in car)
told_late {plan} l dump car n arrival later told e f =
    told
    ∙ ap (λ (p : Plan). is_later p n arrival) l.read
    ∙ ap (λ (k : ℕ). is_later (read_plan plan) k arrival) e
    ∙ ap (is_later (read_plan plan) (handled_in dump)) f

-- as many vehicles as the header says
counted_vehicles : {plan : List ℕ} {site : Site} → Loaded plan site → length (listed site.vehicles) ≡ vehicle_count plan
counted_vehicles {plan} l = ap (λ (p : Plan). length p.vehicles) l.read ∙ vehicle-count plan

pub returns-then-dump-lt512 : goal.returns-then-dump-lt512
unfolding booking_answer
returns-then-dump-lt512 c = record { answer = rw (no_header _ _ c.if-dump-lt512.true); dump = refl }

pub reach-reached-requires : goal.reach-reached-requires
reach-reached-requires c = record { times = (runnable c.args.read.loaded).times }

pub is_dump-requires : goal.is_dump-requires
is_dump-requires c = dumpable c.args.read.loaded c.reach-reached.result.state c.u64_at-handled.result c.reach-reached.ensures.same

pub returns-then-not-is_dump : goal.returns-then-not-is_dump
unfolding booking_answer
returns-then-not-is_dump c =
    let compared = compared c.args.read.loaded c.reach-reached.result.state c.u64_at-handled.result c.reach-reached.ensures.same c.args.dump.now c.u64_at-handled.ensures c.is_dump.result c.is_dump.ensures in
    record { answer = rw (sym compared ∙ c.if-not-is_dump.true); dump = refl }

pub returns-then-len-ge64 : goal.returns-then-len-ge64
unfolding booking_answer
returns-then-len-ge64 c =
    let compared = compared c.args.read.loaded c.reach-reached.result.state c.u64_at-handled.result c.reach-reached.ensures.same c.args.dump.now c.u64_at-handled.ensures c.is_dump.result c.is_dump.ensures in
    let own : is_dump c.args.read.plan.now c.args.dump.now ≡ true = sym compared ∙ c.if-not-is_dump.false in
    let full : 64 ≤ vehicle_count c.args.read.plan.now = omega (arith, c.if-len-ge64.true, c.len.ensures, counted_vehicles c.args.read.loaded) in
    record { answer = rw (own, le-leb 64 (vehicle_count c.args.read.plan.now) full); dump = refl }

pub returns-then-not-reached : goal.returns-then-not-reached
unfolding booking_answer
returns-then-not-reached c =
    let compared = compared c.args.read.loaded c.reach-reached.result.state c.u64_at-handled.result c.reach-reached.ensures.same c.args.dump.now c.u64_at-handled.ensures c.is_dump.result c.is_dump.ensures in
    let own : is_dump c.args.read.plan.now c.args.dump.now ≡ true = sym compared ∙ c.if-not-is_dump.false in
    let few : vehicle_count c.args.read.plan.now < 64 = omega (arith, c.if-len-ge64.false, c.len.ensures, counted_vehicles c.args.read.loaded) in
    let room = lt-leb 64 (vehicle_count c.args.read.plan.now) few in
    let later_told = told_late c.args.read.loaded c.args.dump.now c.args.car.now _ _ _ c.reach-reached.ensures.later c.u64_at-handled.ensures c.u64_at.ensures in
    record { answer = rw (own, room, sym later_told ∙ c.if-not-reached.true); dump = refl }

pub invariant_of-file : goal.invariant_of-file
invariant_of-file c = omega (arith, counted c.args.read.plan.now c.args.read.loaded.admitted)

pub dump_longer-requires : goal.dump_longer-requires
dump_longer-requires c =
    let count = counted_vehicles c.args.read.loaded in
    let fits = counted c.args.read.plan.now c.args.read.loaded.admitted in
    record {
      size = omega (arith, fits, c.if-len-ge64.false, c.len.ensures, count);
      vehicles = omega (arith, c.if-len-ge64.false, c.len.ensures, count);
      room = c.requires;
    }

pub returns : goal.returns
unfolding booking_answer
returns c =
    let compared = compared c.args.read.loaded c.reach-reached.result.state c.u64_at-handled.result c.reach-reached.ensures.same c.args.dump.now c.u64_at-handled.ensures c.is_dump.result c.is_dump.ensures in
    let own : is_dump c.args.read.plan.now c.args.dump.now ≡ true = sym compared ∙ c.if-not-is_dump.false in
    let few : vehicle_count c.args.read.plan.now < 64 = omega (arith, c.if-len-ge64.false, c.len.ensures, counted_vehicles c.args.read.loaded) in
    let room = lt-leb 64 (vehicle_count c.args.read.plan.now) few in
    let later_told = told_late c.args.read.loaded c.args.dump.now c.args.car.now _ _ _ c.reach-reached.ensures.later c.u64_at-handled.ensures c.u64_at.ensures in
    let told = sym later_told ∙ c.if-not-reached.false in record { answer = rw (own, room, told) c.dump_longer.ensures.answer; dump = c.dump_longer.ensures.dump ∙ ap (λ (n : ℕ). dumped_after (longer c.args.read.plan.now c.args.car.now) n c.dump_longer.result c.args.new.now) c.u64_at-handled.ensures }

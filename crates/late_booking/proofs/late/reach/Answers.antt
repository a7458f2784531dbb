-- `late_booking::late::reach` meets its contract. Assumes nothing.
use Rattle.std.proofs.Common.{◌≡◌, ℕ, suc, ◌+◌, ◌-◌, ltb, ap, sym, arith, ◌∙◌}
use Rattle.engine.specs.Discrete.{State, run}
use Rattle.engine.specs.Code.Simulation.{plan_of}
use Rattle.engine.proofs.discrete.EventLaws.{run_handled}
use Rattle.dump.proofs.resume.Resumed.{in_two}
use Rattle.late_booking.specs.LateCar.{first_time, is_later}
use Rattle.late_booking.proofs.late.reach.Goals as goal

pub go_on-requires-clause-reached : goal.go_on-requires-clause-reached
go_on-requires-clause-reached c =
    let p = plan_of c.args.site.now in
    let same = c.run-state.ensures.same in
    same ∙ sym (run_handled p (c.args.n - 1)) ∙ ap (run p) (ap (λ (m : State). m.handled) (sym same))

pub returns : goal.returns
returns c =
    let p = plan_of c.args.site.now in
    let n : c.args.n ≡ suc (c.args.n - 1) = omega (arith, c.if-n-eq0.false) in
    let so_far = ap (λ (m : State). m.handled) c.run-state.ensures.same in
    let sum : c.args.n - 1 + 1 ≡ c.args.n = omega (arith, n) in
    record {
      same = c.go_on.ensures.same ∙ ap (λ (k : ℕ). run p (k + 1)) so_far ∙ in_two p (c.args.n - 1) 1 ∙ ap (run p) sum;
      later = ap (λ (t : ℕ). ltb t c.args.arrival) (c.first_time.ensures ∙ ap (λ (m : State). first_time m.site.pending) c.run-state.ensures.same)
          ∙ ap (λ (k : ℕ). is_later p k c.args.arrival) (sym n);
    }

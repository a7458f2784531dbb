use Rattle.std.proofs.Common.{◌≡◌, ◌-◌, arith, of_calls, refl, rules, Err}
use Rattle.recorded.proofs.Laws.{calls_end, calls_step}
use Rattle.recorded.specs.Replay.{Calls}
use Rattle.recorded.proofs.make_calls.Goals as goal

pub returns-in_err-call : goal.returns-in_err-call
returns-in_err-call g c =
    let e : c.from_residual.result ≡ Err c.in_err-call.field-0.0 = search rules in
    rw e (c.loop.invariant.1 _ (calls_end _ c.args.calls c.loop.counter _ c.call.new.self _ c.call.new.arg2 _ (search rules) (search rules)))

pub loop-preserved : goal.loop-preserved
loop-preserved g c = (search (of_calls, rules), λ r h. c.loop.invariant.1 r (calls_step _ c.args.calls c.loop.counter _ _ _ _ r (search rules) (search rules) h))

pub returns : goal.returns
unfolding Calls
returns g c =
    let e : c.args.calls - c.loop.counter ≡ 0 = omega arith in
    c.loop.invariant.1 _ (rw e refl)

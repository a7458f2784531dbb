-- `practice_day::reply` meets its contract. Assumes nothing.
use Rattle.std.proofs.Common.{◌≡◌, length, rules, sym, ◌∙◌, arith}
use Rattle.program.proofs.Answered.{shown}
use Rattle.practice_day.proofs.Answered.{day_counted, refused, made}
use Rattle.practice_day.proofs.reply.Goals as goal

pub invariant_of-file : goal.invariant_of-file
invariant_of-file c = omega (arith, day_counted _ _ _ _ (sym c.practice.ensures.answer ∙ c.in-Ok.is))

pub returns-in-Err : goal.returns-in-Err
returns-in-Err c =
    let room : length c.args.out.now ≡ 57856 = search rules in
    let left = refused c.args.input.now _ _ _ c.behind-plan.ensures c.number_at.ensures c.number_at-count.ensures _ _ room c.practice.result c.practice.ensures.answer c.practice.ensures.out c.in-Err.refusal c.in-Err.is in
    let all = shown _ _ _ _ (rw (c.check_numbers-numbers.ensures, left.1, left.0) at c.put_line.ensures.stored) (rw (c.check_numbers-numbers.ensures, left.1) at c.put_line.ensures.length) in
    record { counted = all.0; text = all.1.0; whole = all.1.1 }

pub returns-in-Ok : goal.returns-in-Ok
returns-in-Ok c =
    let room : length c.args.out.now ≡ 57856 = search rules in
    let after : length c.practice.new.out ≡ 57856 = search rules in
    let done = made c.args.input.now _ _ _ c.behind-plan.ensures c.number_at.ensures c.number_at-count.ensures _ _ room c.practice.result c.practice.ensures.answer c.practice.ensures.out c.in-Ok.is after c.practice.ensures.equal in
    let all = shown _ _ _ _ done.0 (rw c.start_of.ensures.0 done.1) in
    record { counted = all.0; text = all.1.0; whole = all.1.1 }

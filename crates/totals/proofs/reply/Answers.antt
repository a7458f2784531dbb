-- `totals::reply` meets its contract. Assumes nothing.
use mathlib.Core.Path.{◌≡◌}
use native.Mathlib.Omega.{arith}
use lib.ListN.{length, length-take, take}
use Rattle.plan.specs.Answer.{refusal_numbers}
use Rattle.program.specs.Output.{line}
use Rattle.program.proofs.Answered.{shown}
use Rattle.totals.specs.Output.{totals_numbers, output}
use borrow.Author.Rules.{rules}
use Rattle.totals.proofs.reply.Goals as goal

pub put_line-requires : goal.put_line-requires
put_line-requires c =
    let room : length c.args.out.now ≡ 147 = search rules in
    simp length-take (omega arith)

pub returns-in-Err : goal.returns-in-Err
unfolding output
returns-in-Err c =
    let e : line (take 3 (refusal_numbers c.in-Err.refusal)) ≡ output c.args.book.now = rw (← c.totals.ensures, c.in-Err.is) in
    let all = shown _ _ _ _ (rw (c.check_numbers-numbers.ensures, e) at c.put_line.ensures.stored) (rw (c.check_numbers-numbers.ensures, e) at c.put_line.ensures.length) in
    record { counted = all.0; text = all.1.0; whole = all.1.1 }

pub returns-in-Ok : goal.returns-in-Ok
unfolding output
returns-in-Ok c =
    let e : line (totals_numbers c.in-Ok.t) ≡ output c.args.book.now = rw (← c.totals.ensures, c.in-Ok.is) in
    let all = shown _ _ _ _ (rw (c.totals_numbers.ensures, e) at c.put_line-in-Ok.ensures.stored) (rw (c.totals_numbers.ensures, e) at c.put_line-in-Ok.ensures.length) in
    record { counted = all.0; text = all.1.0; whole = all.1.1 }

-- `program::reply` meets its contract. Assumes nothing.
use mathlib.Core.Path.{◌≡◌, sym, ◌∙◌}
use lib.Seq.{length-take-le}
use native.Mathlib.Omega.{arith}
use lib.ListN.{length, get_or, length-take}
use Rattle.plan.specs.Answer.{numbers}
use Rattle.program.proofs.Answered.{shown, success, refusal, same_output}
use borrow.Author.Rules.{rules}
use Rattle.program.proofs.reply.Goals as goal

pub returns-then-numbers-eq0 : goal.returns-then-numbers-eq0
returns-then-numbers-eq0 c =
    let zero : get_or (numbers c.run-answer.result) 0 0 ≡ 0 = rw c.run_numbers-numbers.ensures at c.if-numbers-eq0.true in
    let same = same_output c.args.input.now _ _ _ _ c.run-answer.result c.behind-plan.ensures c.byte_at.ensures.0 c.number_at.ensures (search rules) c.run-answer.ensures.answer in
    let done = success _ _ _ c.args.out.now _ c.run-answer.result c.run-answer.ensures.book c.run-answer.ensures.back zero in
    let all = shown _ _ _ _ (rw same at done.0) (c.book_length.ensures ∙ rw same at done.1) in
    record { counted = all.0; text = all.1.0; whole = all.1.1 }

pub slice_bounds-put_line-end-2 : goal.slice_bounds-put_line-end-2
slice_bounds-put_line-end-2 c =
    let eleven : length c.run_numbers-numbers.result ≡ 11 = search (rules, c.run_numbers-numbers.type_inv) in
    sym (length-take-le 3 c.run_numbers-numbers.result (omega arith))

pub put_line-requires : goal.put_line-requires
put_line-requires c =
    let room : length c.args.out.now ≡ 7168 = search rules in
    simp length-take (omega arith)

pub returns : goal.returns
returns c =
    let some : get_or (numbers c.run-answer.result) 0 0 ≡ 0 → ⊥ = λ z. c.if-numbers-eq0.false (rw c.run_numbers-numbers.ensures z) in
    let same = same_output c.args.input.now _ _ _ _ c.run-answer.result c.behind-plan.ensures c.byte_at.ensures.0 c.number_at.ensures (search rules) c.run-answer.ensures.answer in
    let left = refusal _ _ _ c.args.out.now _ c.run-answer.result c.run-answer.ensures.book some in
    let all = shown _ _ _ _ (rw (c.run_numbers-numbers.ensures, left.1 ∙ same, left.0) at c.put_line.ensures.stored) (rw (c.run_numbers-numbers.ensures, left.1 ∙ same) at c.put_line.ensures.length) in
    record { counted = all.0; text = all.1.0; whole = all.1.1 }

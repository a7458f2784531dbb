use Rattle.std.proofs.Common.{◌≡◌, arith, rules}
use Rattle.std.proofs.lemmas.List.{drop_all}
use Rattle.recorded.proofs.Laws.{number_step, two_numbers}
use Rattle.recorded.proofs.answer_bytes.Goals as goal

pub loop-i-preserved : goal.loop-i-preserved
loop-i-preserved c = number_step _ _ _ c.args.numbers c.loop-i.i (search rules) c.put.ensures c.loop-i.invariant

pub returns : goal.returns
returns c =
    let e : c.loop-i.i ≡ 11 = omega (arith, c.loop-i-test.false, c.loop-i.auto.i-end) in
    rw (c.put-3.ensures, c.put-2.ensures) (two_numbers c.loop-i.out _ c.args.numbers c.args.first c.args.second (search rules) c.loop-i-test.array_long (rw (e, drop_all 11 c.args.numbers (search rules)) at c.loop-i.invariant))

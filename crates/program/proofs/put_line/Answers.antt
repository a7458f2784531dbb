use native.Mathlib.Omega.{arith}
use borrow.Author.Rules.{rules}
use Rattle.program.proofs.Text.{line_start, line_step, line_end}
use Rattle.program.proofs.put_line.Goals as goal

pub loop-i-init : goal.loop-i-init
loop-i-init c = line_start _ _

pub loop-i-preserved : goal.loop-i-preserved
loop-i-preserved c =
    line_step c.args.numbers.now c.args.out.now c.loop-i.out _ c.loop-i.at c.loop-i.i _ (omega arith) (search rules) c.put_decimal-at.ensures.bounded
    (rw c.byte_behind.ensures at c.put_decimal-at.ensures.place) (rw c.byte_behind.ensures at c.put_decimal-at.ensures.stored) c.loop-i.invariant

pub returns : goal.returns
returns c =
    let all = line_end c.args.numbers.now c.args.out.now c.loop-i.out c.loop-i.at c.loop-i.i (omega arith) c.requires c.loop-i.invariant in
    record { length = all.0; stored = all.1 }

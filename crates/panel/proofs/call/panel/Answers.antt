-- `panel::call::panel` meets its contract. Assumes nothing.
use Rattle.std.proofs.Common.{◌≡◌, ◌+◌, ◌/◌, ◌≤◌, length, take, map, sym, ◌∙◌, zero-add, arith, lt-ltb, le-ltb, leb-true, leb-false}
use Rattle.std.proofs.lemmas.List.{take_min}
use Rattle.std.proofs.lemmas.Result.{err_from_is_err_and}
use lib.Seq.{sets, sets-eq}
use Rattle.files.specs.Read.{read_plan}
use Rattle.files.specs.Book.{written}
use Rattle.files.proofs.check.PairLaws.{blocks_refused}
use Rattle.panel.specs.Panel.{start}
use Rattle.panel.specs.Script.{operation_of, rounds_in, played}
use Rattle.panel.specs.Call.{panel_answer, part_played}
use Rattle.panel.proofs.call.Played.{length_played, length_part}
use Rattle.panel.proofs.call.Promised.{shows, status, pending, enables, raises, free_zero, done, outside, read_only, past}
use Rattle.panel.proofs.call.panel.Goals as goal

pub returns-then-not-within_allowance-clause-answer : goal.returns-then-not-within_allowance-clause-answer
unfolding panel_answer
returns-then-not-within_allowance-clause-answer c =
    let part = part_played c.args.script.now (length c.args.out.now) in
    let cut : take c.min.result c.args.script.now ≡ part = rw c.min.ensures (take_min (length c.args.out.now / 2) c.args.script.now) in
    let many = rw cut at (sym c.within_allowance.ensures ∙ c.if-not-within_allowance.true) in
    rw (lt-ltb 10000000 (rounds_in (map operation_of part)) (leb-false (rounds_in (map operation_of part)) 10000000 many))

pub returns-in_err-check_blocks-clause-answer : goal.returns-in_err-check_blocks-clause-answer
unfolding panel_answer
returns-in_err-check_blocks-clause-answer c =
    let part = part_played c.args.script.now (length c.args.out.now) in
    let cut : take c.min.result c.args.script.now ≡ part = rw c.min.ensures (take_min (length c.args.out.now / 2) c.args.script.now) in
    let few = rw cut at (sym c.within_allowance.ensures ∙ c.if-not-within_allowance.false) in
    let e = err_from_is_err_and c.from_residual.result c.from_residual.ensures.1 in
    rw (e.1, le-ltb 10000000 (rounds_in (map operation_of part)) (leb-true (rounds_in (map operation_of part)) 10000000 few), blocks_refused _ _ (sym c.check_blocks.ensures ∙ c.in_err-check_blocks.was), e.2)

pub returns-in_err-read_admitted-clause-answer : goal.returns-in_err-read_admitted-clause-answer
unfolding panel_answer
returns-in_err-read_admitted-clause-answer c =
    let part = part_played c.args.script.now (length c.args.out.now) in
    let cut : take c.min.result c.args.script.now ≡ part = rw c.min.ensures (take_min (length c.args.out.now / 2) c.args.script.now) in
    let few = rw cut at (sym c.within_allowance.ensures ∙ c.if-not-within_allowance.false) in
    let e = err_from_is_err_and c.from_residual-in_err-read_admitted.result c.from_residual-in_err-read_admitted.ensures.1 in
    rw (e.1, le-ltb 10000000 (rounds_in (map operation_of part)) (leb-true (rounds_in (map operation_of part)) 10000000 few), c.in_err-read_admitted.ensures.answer, e.2)

pub returns : goal.returns
unfolding panel_answer written
returns c =
    let plan = c.args.plan.now in
    let script = c.args.script.now in
    let old = c.args.out.now in
    let part = part_played script (length old) in
    let cut : take c.min.result script ≡ part = rw c.min.ensures (take_min (length old / 2) script) in
    let few = rw cut at (sym c.within_allowance.ensures ∙ c.if-not-within_allowance.false) in
    let fine = c.in_ok-read_admitted.ensures.answer.fine in
    let out = played plan (read_plan plan) part (start (read_plan plan)) in
    let stored : c.play.new.out ≡ sets old 0 out = rw (c.start-panel.ensures.loaded, cut, c.start-panel.ensures.model) at c.play.ensures.out in
    let room : 0 + length out ≤ length old = omega (arith, length_played plan (read_plan plan) part (start (read_plan plan)), length_part script (length old)) in
    let made : c.play.new.out ≡ written out old = stored ∙ rw zero-add at (sets-eq out old 0 room) in
    record {
      answer = rw (le-ltb 10000000 (rounds_in (map operation_of part)) (leb-true (rounds_in (map operation_of part)) 10000000 few), fine);
      out = made;
      shows = rw made (shows plan script old);
      status = rw made (status plan script old);
      pending = rw made (pending plan script old);
      enables = rw made (enables plan script old);
      raises = rw made (raises plan script old);
      free = rw made (free_zero plan script old);
      done = rw made (done plan script old);
      outside = rw made (outside plan script old);
      read_only = rw made (read_only plan script old);
      past = rw made (past plan script old);
      untouched = tt;
    }

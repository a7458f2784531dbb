-- `practice_vectors::make_day` meets its contract. Assumes nothing.
use Rattle.std.proofs.lemmas.List.{take_min, drop_min}
use Rattle.practice_vectors.proofs.make_day.Goals as goal

pub returns-clause-out : goal.returns-clause-out
returns-clause-out c =
    let plan = c.args.plan.now in
    let out = c.args.out.now in
    rw (c.practice.ensures.out, c.practice.ensures.answer, c.min.ensures, c.min-room.ensures, take_min c.args.c.plan plan, take_min c.args.c.room out, drop_min c.args.c.room out)

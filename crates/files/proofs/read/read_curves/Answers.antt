-- `files::read::read_curves` meets its contract. Assumes nothing.
use Rattle.std.proofs.Common.{◌≡◌, arith}
use Rattle.files.proofs.read.Laws.{fill_curve, all_curves}
use Rattle.files.proofs.read.read_curves.Goals as goal

pub loop-k-preserved : goal.loop-k-preserved
loop-k-preserved c =
    fill_curve c.args.plan.now.file c.loop-k.curves c.read_curve-n.new.curve _ c.loop-k.lens c.loop-k.k c.read_curve-n.result
    (omega arith) (omega arith) (omega arith) c.read_curve-n.ensures.1 c.read_curve-n.ensures.0 c.loop-k.invariant

pub returns : goal.returns
returns c =
    let e : c.loop-k.k ≡ 16 = omega arith in
    all_curves c.args.plan.now.file c.loop-k.curves c.loop-k.lens (omega arith) (omega arith) (omega arith) (rw e at c.loop-k.invariant)

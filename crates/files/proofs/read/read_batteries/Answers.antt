-- `files::read::read_batteries` meets its contract. Assumes nothing.
use Rattle.std.proofs.Common.{◌≡◌, refl, arith}
use lib.ListN.{length-set}
use Rattle.plan.specs.Search.{each}
use Rattle.plan.proofs.SearchLaws.{fill_step}
use Rattle.files.specs.Read.{battery_of}
use Rattle.files.proofs.read.Laws.{all_batteries}
use Rattle.files.proofs.read.read_batteries.Goals as goal

pub loop-k-init : goal.loop-k-init
unfolding each
loop-k-init c = (refl, refl)

pub loop-k-preserved : goal.loop-k-preserved
loop-k-preserved c =
    (simp length-set c.loop-k.invariant.0, fill_step (battery_of c.args.plan.now.file) c.loop-k.all c.loop-k.k _ (omega arith) c.loop-k.invariant.1 c.read_battery.ensures)

pub returns : goal.returns
returns c =
    let e : c.loop-k.k ≡ 16 = omega arith in
    all_batteries c.args.plan.now.file c.loop-k.all (omega arith) c.loop-k.invariant.0 (rw e at c.loop-k.invariant.1)

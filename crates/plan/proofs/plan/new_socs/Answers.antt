-- `plan::plan::new_socs` meets its contract.
use Rattle.std.proofs.Common.{◌≡◌, ◌∙◌, ap, length, length-take-le}
use Rattle.plan.specs.Search.{each}
use Rattle.plan.proofs.plan.Laws.{soc_at, all_read}
use Rattle.plan.proofs.plan.new_socs.Goals as goal

pub returns : goal.returns
returns c =
    let room = length-take-le c.args.n _ c.requires in
    let long : length c.read_socs.new.socs ≡ c.args.n = c.read_socs.auto.socs ∙ room in
    let all : c.read_socs.new.socs ≡ each (soc_at c.args.b.now) 0 c.args.n = c.read_socs.ensures ∙ ap (each (soc_at c.args.b.now) 0) room in
    c.all_new.ensures ∙ rw long (all_read c.args.b.now c.read_socs.new.socs c.args.n long all)

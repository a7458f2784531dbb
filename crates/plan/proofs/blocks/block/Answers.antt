-- `plan::blocks::block` meets its contract. Assumes nothing.
use Rattle.std.proofs.Common.{◌*◌, ◌-◌, ◌∙◌, length, drop, ap, take, arith, length-drop, take_all}
use Rattle.std.proofs.lemmas.Option.{MatchOption-at_some}
use Rattle.plan.specs.Blocks.{block}
use Rattle.plan.proofs.blocks.block.Goals as goal

pub returns : goal.returns
unfolding block
returns c =
    let f = c.args.file.now in
    let at = 512 * c.args.k in
    (MatchOption-at_some _ _ _ c.unwrap.ensures c.first_chunk.ensures.cases).same
    ∙ ap (take 512) (take_all (length f - at) (drop at f) (omega (arith, length-drop at f)))

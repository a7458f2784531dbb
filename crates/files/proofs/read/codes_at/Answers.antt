-- `files::read::codes_at` meets its contract. Assumes nothing.
use Rattle.std.proofs.Common.{◌-◌, ◌∙◌, length, drop, ap, take, arith, length-drop, take_all, add-zero}
use Rattle.std.proofs.lemmas.Option.{MatchOption-at_some}
use Rattle.plan.specs.Search.{each}
use Rattle.files.proofs.read.Laws.{bytes_from}
use Rattle.files.proofs.read.codes_at.Goals as goal

pub returns : goal.returns
unfolding each
returns c =
    let b = c.args.b.now in
    let at = c.args.at in
    (MatchOption-at_some _ _ _ c.unwrap.ensures c.first_chunk.ensures.cases).same
    ∙ ap (take 5) (take_all (length b - at) (drop at b) (omega (arith, length-drop at b)))
    ∙ rw add-zero at (bytes_from b at 5 (omega (arith, c.requires)))

-- `files::read::read_queue_places` meets its contract. Assumes nothing.
use Rattle.std.proofs.Common.{◌-◌, ◌∙◌, length, drop, ap, take, arith, length-drop, take_all}
use Rattle.std.proofs.lemmas.Option.{MatchOption-at_some}
use Rattle.files.specs.Read.{queue_places_of}
use Rattle.files.proofs.read.Laws.{bytes_from}
use Rattle.files.proofs.read.read_queue_places.Goals as goal

pub returns : goal.returns
unfolding queue_places_of
returns c =
    let f = c.args.plan.now in
    rw c.plan.view_is at ((MatchOption-at_some _ _ _ c.unwrap.ensures c.first_chunk.ensures.cases).same)
    ∙ ap (take 64) (take_all (length f - 24) (drop 24 f) (omega (arith, length-drop 24 f)))
    ∙ bytes_from f 24 64 (rw (← c.plan.view_is) (omega (arith, c.plan.told, c.plan.invariant)))

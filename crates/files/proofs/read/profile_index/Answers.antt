-- `files::read::profile_index` meets its contract. Assumes nothing.
use Rattle.std.proofs.Common.{◌≡◌, ◌∙◌, arith}
use Rattle.plan.specs.Plan.{with_id}
use Rattle.files.specs.Read.{profile_index}
use Rattle.plan.proofs.ids.Laws.{with_id_from, with_id_to, found_or_end}
use Rattle.files.proofs.read.profile_index.Goals as goal

pub overflow_sub-result : goal.overflow_sub-result
overflow_sub-result c =
    let end = c.start_of-end.result in
    let bytes = c.file.inside.bytes.now in
    let found : c.unwrap_or.result ≡ with_id bytes 1 end c.args.id =
    c.unwrap_or.ensures ∙ rw c.with_id.ensures (found_or_end _ end (with_id_to bytes 1 end c.args.id (omega arith))) in
    omega (arith, with_id_from bytes 1 end c.args.id)

pub returns : goal.returns
unfolding profile_index
returns c =
    let end = c.start_of-end.result in
    let bytes = c.file.inside.bytes.now in
    let found : c.unwrap_or.result ≡ with_id bytes 1 end c.args.id =
    c.unwrap_or.ensures ∙ rw c.with_id.ensures (found_or_end _ end (with_id_to bytes 1 end c.args.id (omega arith))) in
    rw (found, c.start_of-end.ensures.0, c.file.view_is)

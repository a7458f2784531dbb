-- `panel_vectors::next_call` meets its contract. Assumes nothing.
use Rattle.std.proofs.Common.{◌≡◌, drop, ◌∙◌}
use Rattle.std.proofs.lemmas.List.{drop-drop}
use Rattle.plan.proofs.bytes.Laws.{le_at-drop}
use Rattle.panel_vectors.proofs.next_call.Goals as goal

pub returns-clause-room : goal.returns-clause-room
returns-clause-room c = rw c.u32.ensures.left at c.u32-2.ensures.number ∙ le_at-drop 4 4 c.args.next.now.rest.now 0

pub returns-clause-plan : goal.returns-clause-plan
returns-clause-plan c =
    let rest = c.args.next.now.rest.now in
    let two : c.u32-2.new.self.rest.now ≡ drop 8 rest = c.u32-2.ensures.left ∙ rw c.u32.ensures.left (drop-drop 4 4 rest) in
    rw two at c.u32-3.ensures.number ∙ le_at-drop 4 8 rest 0

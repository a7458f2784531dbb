-- `practice_vectors::next_call` meets its contract. Assumes nothing.
use Rattle.std.proofs.Common.{◌≡◌, drop, ◌∙◌}
use Rattle.std.proofs.lemmas.List.{drop-drop}
use Rattle.plan.proofs.bytes.Laws.{le_at-drop}
use Rattle.practice_vectors.proofs.next_call.Goals as goal

pub returns-clause-count : goal.returns-clause-count
returns-clause-count c = rw c.u32.ensures.left at c.u32-2.ensures.number ∙ le_at-drop 4 4 c.args.next.now.rest.now 0

pub returns-clause-room : goal.returns-clause-room
returns-clause-room c =
    let rest = c.args.next.now.rest.now in
    let two : c.u32-2.new.self.rest.now ≡ drop 8 rest = c.u32-2.ensures.left ∙ rw c.u32.ensures.left (drop-drop 4 4 rest) in
    rw two at c.u32-3.ensures.number ∙ le_at-drop 4 8 rest 0

pub returns-clause-plan : goal.returns-clause-plan
returns-clause-plan c =
    let rest = c.args.next.now.rest.now in
    let two : c.u32-2.new.self.rest.now ≡ drop 8 rest = c.u32-2.ensures.left ∙ rw c.u32.ensures.left (drop-drop 4 4 rest) in
    let three : c.u32-3.new.self.rest.now ≡ drop 12 rest = c.u32-3.ensures.left ∙ rw two (drop-drop 4 8 rest) in
    rw three at c.u32-4.ensures.number ∙ le_at-drop 4 12 rest 0

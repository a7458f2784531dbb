use Rattle.std.proofs.Common.{◌≡◌, rules}
use Rattle.arrayvec.proofs.ArrayVecLemmas.{items-with_items}
use Rattle.shares.specs.Shares.{shares}
use Rattle.share_vectors.proofs.Laws.{answered, list_left}
use Rattle.share_vectors.proofs.answer.Goals as goal

pub returns-clause-numbers : goal.returns-clause-numbers
returns-clause-numbers c =
    let shared : c.as_slice-w-items.result.now ≡ shares c.next_requests-watts.result.items c.next_watts-limit.result =
    rw (c.as_slice-w-items.ensures.value, items-with_items c.next_requests-watts.result c.share.new.watts (search rules), c.share.ensures.shared, c.as_mut_slice.ensures.value)
    in
    answered _ _ _ c.byte.result c.min-n.result c.byte.ensures.number.0 c.byte.ensures.left c.min-n.ensures c.next_watts-limit.ensures.left _ c.loop-w.w-index _ _ _
    c.next_watts-limit.ensures.watts
    c.next_requests-watts.ensures.watts
    shared
    c.loop-w-test.false
    c.loop-w.invariant.so_far

pub returns-clause-left : goal.returns-clause-left
returns-clause-left c =
    list_left _ _ _ c.byte.result c.min-n.result c.byte.ensures.number.0 c.byte.ensures.left c.min-n.ensures c.next_watts-limit.ensures.left _ c.next_requests-watts.ensures.left

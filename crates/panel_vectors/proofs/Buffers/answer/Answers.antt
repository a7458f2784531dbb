-- `panel_vectors::Buffers::answer` meets its contract. Assumes nothing.
use Rattle.std.proofs.Common.{◌≡◌}
use Rattle.std.proofs.lemmas.List.{drop-drop}
use Rattle.std.specs.List.{each_same}
use Rattle.recorded.specs.Replay.{answer_of, digest_of}
use Rattle.panel_vectors.proofs.Buffers.answer.Goals as goal

pub returns-clause-written : goal.returns-clause-written
unfolding answer_of
returns-clause-written c =
    let plan : c.digest.result ≡ digest_of c.change.new.buffer = rw (each_same _ _ c.digest.ensures.1) at c.digest.ensures.2 in
    let out : c.digest-2.result ≡ digest_of _ = rw (each_same _ _ c.digest-2.ensures.1) at c.digest-2.ensures.2 in
    let asked = c.next_call-c.ensures in
    rw (c.answer_bytes.ensures, plan, out, c.play-numbers.ensures.numbers, c.change.ensures.left, asked.left, drop-drop, asked.plan, asked.room, asked.count)

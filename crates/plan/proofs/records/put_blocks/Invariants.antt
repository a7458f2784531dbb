-- `plan::records::put_blocks` meets its contract. The loop's invariant: what is still to be put, put, gives the whole.
use Rattle.std.proofs.Common.{◌≡◌, ◌+◌, ◌-◌, ◌*◌, length}
use Rattle.std.proofs.lemmas.List.Edits.{sets}
use Rattle.plan.specs.Bytes.{pieces}
use Rattle.plan.specs.Blocks.{record_block}
use Rattle.plan.proofs.records.put_blocks.Given as goal

abbrev pub invariant-loop-j : goal.invariant-loop-j
invariant-loop-j g l =
    let r = g.R.Records in
    let f = record_block (r.slot l.records) g.row.W l.n l.place in
    record {
      long : length l.s ≡ length l.initial.s;
      left : sets l.s (l.at + 512 * l.j) (pieces f l.j (l.blocks - l.j)) ≡ sets l.initial.s l.at (pieces f 0 l.blocks);
    }

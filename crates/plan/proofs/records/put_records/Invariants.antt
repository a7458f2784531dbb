-- `plan::records::put_records` meets its contract. The loop's invariant: what is still to be put, put, gives the whole.
use Rattle.std.proofs.Common.{◌≡◌, ◌+◌, ◌-◌, ◌*◌, length}
use Rattle.std.proofs.lemmas.List.Edits.{sets}
use Rattle.plan.specs.Bytes.{pieces}
use Rattle.plan.proofs.records.put_records.Given as goal

abbrev pub invariant-loop-i : goal.invariant-loop-i
invariant-loop-i g l =
    let r = g.R.Records in
    let f = r.slot l.records in
    record {
      long : length l.s ≡ length l.initial.s;
      left : sets l.s (l.at + g.row.W * l.i) (pieces f (l.k + l.i) (l.n - l.i)) ≡ sets l.initial.s l.at (pieces f l.k l.n);
    }

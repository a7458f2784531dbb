-- `practice::practice_plan::put_cars` meets its contract. The loop's invariant: what is still to be put, put, gives the whole.
use Rattle.std.proofs.Common.{◌≡◌, ◌+◌, ◌-◌, ◌*◌, length}
use Rattle.std.proofs.lemmas.List.Edits.{sets}
use Rattle.plan.specs.Bytes.{pieces}
use Rattle.practice.specs.Xorshift.{draw}
use Rattle.practice.specs.PracticePlan.{car_block}
use Rattle.practice.proofs.practice_plan.put_cars.Given as goal

abbrev pub invariant-loop-i : goal.invariant-loop-i
invariant-loop-i l =
    let f = car_block l.vehicle l.seed l.place in
    record {
      long : length l.s ≡ length l.initial.s;
      drawn : l.state ≡ draw l.seed (3 * l.i);
      left : sets l.s (l.at + 512 * l.i) (pieces f l.i (l.count - l.i)) ≡ sets l.initial.s l.at (pieces f 0 l.count);
    }

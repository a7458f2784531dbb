use mathlib.Core.Path.{◌≡◌, ◌∙◌}
use Prim.Native.Nat.{◌-◌, ◌*◌}
use native.Mathlib.Nat.{zero-add}
use native.Mathlib.Omega.{arith}
use borrow.Author.Rules.{rules}
use Rattle.plan.specs.Bytes.{pieces}
use Rattle.plan.proofs.bytes.Laws.{pieces_step}
use Rattle.files.specs.Book.{sessions_in}
use Rattle.book_reader.specs.Reader.{numbers_at}
use Rattle.book_reader.proofs.numbers.Laws.{length-numbers, all_stored}
use Rattle.book_reader.proofs.numbers.put_sessions.Goals as goal

pub loop-k-preserved : goal.loop-k-preserved
unfolding numbers_at
loop-k-preserved c =
    let xs = sessions_in c.args.sessions.book.now in (
      omega arith,
      (
        omega arith,
        rw (c.put_numbers.ensures, c.session_numbers.ensures, c.session_at.ensures, ← zero-add (16 * c.loop-k.k))
            (pieces_step (numbers_at xs) 16 (length-numbers xs) c.loop-k.out _ 0 c.loop-k.k 64 c.loop-k.k (omega arith) c.loop-k.invariant.1.1),
      ),
    )

pub returns : goal.returns
unfolding pieces
returns c =
    let e : 64 - c.loop-k.k ≡ 0 = omega arith in
    rw e at c.loop-k.invariant.1.1 ∙ all_stored (sessions_in c.args.sessions.book.now) c.args.out.now (search rules)

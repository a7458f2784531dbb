-- `book_reader::blocks::damaged` meets its contract. Assumes nothing.
use mathlib.Core.Path.{sym, ◌∙◌}
use native.Mathlib.Omega.{arith}
use lib.ListN.{length}
use Rattle.plan.proofs.blocks.Laws.{whole_blocks_lem}
use Rattle.book_reader.specs.Reader.{damaged}
use Rattle.book_reader.proofs.blocks.damaged.Goals as goal

pub returns-then-not-whole_blocks : goal.returns-then-not-whole_blocks
unfolding damaged
returns-then-not-whole_blocks c = rw (sym c.whole_blocks.ensures ∙ c.if-not-whole_blocks.true)

pub all_pass-requires : goal.all_pass-requires
all_pass-requires c =
    let w = whole_blocks_lem (length c.args.book.now) 14 (sym c.whole_blocks.ensures ∙ c.if-not-whole_blocks.false) in
    omega arith

pub returns : goal.returns
unfolding damaged
returns c = rw (sym c.whole_blocks.ensures ∙ c.if-not-whole_blocks.false, c.all_pass.ensures)

-- `files::book::put_header` meets its contract. Assumes nothing.
use mathlib.Core.Path.{refl}
use native.Mathlib.Omega.{arith}
use Rattle.plan.specs.Bytes.{fields, bytes}
use Rattle.files.specs.Book.{header_block}
use Rattle.plan.proofs.blocks.Laws.{put_sealed}
use Rattle.files.proofs.book.put_header.Goals as goal

pub put_fields-requires : goal.put_fields-requires
unfolding fields bytes
put_fields-requires c = omega arith

pub returns : goal.returns
unfolding header_block fields bytes
returns c =
    rw (← c.from.ensures, ← c.from-2.ensures) (put_sealed _ _ _ 0 1 _ refl (omega arith) c.put_fields.ensures c.seal.ensures)

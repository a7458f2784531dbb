-- `book_reader::totals::BookTotals::add` meets its contract. Assumes nothing.
use Rattle.book_reader.specs.Code.Sums.{added}
use Rattle.book_reader.proofs.totals.BookTotals.add.Goals as goal

pub returns : goal.returns
unfolding added
returns c =
    simp (c.max-self.ensures, c.with_energy-self.ensures, c.from-4.ensures, c.from-3.ensures, c.from-2.ensures, c.from.ensures)

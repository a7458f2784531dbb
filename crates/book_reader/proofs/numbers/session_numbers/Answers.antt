-- `book_reader::numbers::session_numbers` meets its contract. Assumes nothing.
use mathlib.Core.Path.{refl}
use Rattle.book_reader.specs.Reader.{session_numbers}
use Rattle.book_reader.proofs.numbers.session_numbers.Goals as goal

pub returns : goal.returns
unfolding session_numbers
returns c = refl

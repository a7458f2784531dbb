-- A session of a book, read from there to the book's end. Assumes nothing.
use mathlib.Core.Path.{◌≡◌}
use mathlib.Core.List.{List}
use Prim.Native.Nat.{ℕ, ◌-◌}
use native.Mathlib.Omega.{arith}
use lib.ListN.{length, take, drop, length-drop}
use lib.Seq.{take_all}
use Rattle.files.specs.SessionBlocks.{session_of}
use Rattle.files.specs.Book.{book_offset}
use Rattle.files.proofs.SessionsIn.{session_in}

pub in_rest : (b : List ℕ) (k : ℕ) → session_of (take (length b - book_offset k) (drop (book_offset k) b)) ≡ session_in b k
in_rest b k = rw (take_all (length b - book_offset k) (drop (book_offset k) b) (omega (arith, length-drop (book_offset k) b)))

-- What the reader's answer tells once it is taken apart. Assumes nothing.
use mathlib.Core.Path.{◌≡◌, sym, ◌∙◌}
use mathlib.Core.List.{List}
use Prim.Native.Nat.{ℕ}
use Rattle.std.specs.Prelude.{Result, Ok, Err}
use Rattle.plan.specs.declared.answer.Refusal.{Refusal}
use Rattle.book_reader.specs.Reader.{refused, contents, read_book}
use Rattle.book_reader.specs.Code.Read.{reading}
use Rattle.book_reader.specs.declared.reader.ReadBook.{ReadBook}

module _ (b : List ℕ) (a : Result ReadBook Refusal) (r : reading a ≡ read_book b) where
  pub told_refused : (x : Refusal) → a ≡ Err x → read_book b ≡ refused x
  told_refused x e = sym r ∙ rw e

  pub told_read : (k : ReadBook) → a ≡ Ok k
      → read_book b ≡ contents (record { engine = k.header.engine; ended = k.header.ended; used = k.header.used; sessions = k.sessions.items })
  told_read k e = sym r ∙ rw e

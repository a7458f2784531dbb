-- Laws of the numbers of sessions. Assumes nothing.
use mathlib.Core.Path.{◌≡◌, refl, ◌∙◌}
use mathlib.Core.List.{List, append-nil}
use Prim.Native.Nat.{ℕ, ◌+◌}
use native.Mathlib.Omega.{arith}
use lib.ListN.{length, drop_of_length-le}
use lib.Seq.{sets, sets-eq}
use Rattle.plan.specs.Bytes.{pieces}
use Rattle.plan.proofs.bytes.Laws.{length-pieces}
use Rattle.files.specs.declared.book_session.BookSession.{BookSession}
use Rattle.book_reader.specs.Reader.{session_numbers, numbers_at}

pub length-numbers : (xs : List BookSession) (k : ℕ) → length (numbers_at xs k) ≡ 16
unfolding numbers_at session_numbers
length-numbers xs k = refl

-- all 1024 numbers are stored
pub all_stored : (xs : List BookSession) (out : List ℕ) → length out ≡ 1024 → sets out 0 (pieces (numbers_at xs) 0 64) ≡ pieces (numbers_at xs) 0 64
all_stored xs out e =
    let rows : List ℕ = pieces (numbers_at xs) 0 64 in
    let long : length rows ≡ 1024 = length-pieces (numbers_at xs) 16 (length-numbers xs) 0 64 in
    sets-eq rows out 0 (omega arith) ∙ rw (drop_of_length-le out {i = 0 + length rows} (omega arith), append-nil)

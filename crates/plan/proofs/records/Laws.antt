-- Laws of blocks of records of one width: as they are stored, their lengths and their checks. Assumes nothing.
use Rattle.std.proofs.Common.{◌≡◌, ◌∙◌, ℕ, ◌+◌, ◌-◌, ◌*◌, ◌≤◌, List, ◌++◌, length, take, drop, length-append, true, arith}
use Rattle.std.proofs.lemmas.List.Edits.{sets}
use Rattle.plan.specs.Bytes.{bytes, pieces}
use Rattle.plan.specs.Blocks.{check_of, sealed, passes, record_block}
use Rattle.plan.proofs.bytes.Laws.{sets_append, length-bytes, length-pieces}
use Rattle.plan.proofs.blocks.Laws.{put_sealed, length-sealed, sealed-passes}

module _ (f : ℕ → List ℕ) (w : ℕ) (wide : (k : ℕ) → length (f k) ≡ w) where
  pub length_body : (k n : ℕ) → w * n ≤ 508 → length (pieces f k n ++ bytes (508 - w * n) 0) ≡ 508
  length_body k n h = rw (length-append, length-pieces f w wide k n, length-bytes) (omega arith)

  -- a block of n of them is stored in its parts
  pub block_in_parts : (s a b r : List ℕ) (at place k n : ℕ) → at + 512 ≤ length s → w * n ≤ 508
      → a ≡ sets s at (pieces f k n) → b ≡ sets a (at + w * n) (bytes (508 - w * n) 0)
      → r ≡ sets b (at + 508) (bytes 4 (check_of place (take 508 (drop at b))))
      → r ≡ sets s at (sealed place (pieces f k n ++ bytes (508 - w * n) 0))
  block_in_parts s a b r at place k n room few p q u =
      put_sealed s b r at place _ (length_body k n few) (omega arith) (q ∙ rw (p, sets_append s at (pieces f k n), length-pieces f w wide k n)) u

  module _ (n place : ℕ) (few : w * n ≤ 508) where
    pub length_block : (j : ℕ) → length (record_block f w n place j) ≡ 512
    length_block j = length-sealed _ _ (length_body (n * j) n few)

    pub block_passes : (j : ℕ) → passes (place + j) (record_block f w n place j) ≡ true
    block_passes j = sealed-passes (place + j) _ (length_body (n * j) n few)

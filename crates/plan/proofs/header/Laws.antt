-- Laws of a header with another number of vehicles: as it is stored, and what is read of it. Assumes nothing.
use Rattle.std.proofs.Common.{◌≡◌, ℕ, ◌+◌, ◌<◌, ◌≤◌, List, [], refl, ◌++◌, length, get_or, take, drop, ◌∙◌, append_assoc, arith, length-append, drop-drop, drop_at}
use lib.Seq.{sets}
use Rattle.plan.specs.Bytes.{le_at, bytes, stretch}
use Rattle.plan.specs.Blocks.{check_of, sealed}
use Rattle.plan.specs.Header.{counting, header_counting}
use Rattle.plan.specs.Places.{vehicle_count}
use Rattle.plan.proofs.bytes.Laws.{sets_behind, length-bytes, length-stretch, number_there, stretch_there, le_at-same}
use Rattle.plan.proofs.blocks.Laws.{put_sealed, length-sealed}

module _ (v : ℕ) (plan : List ℕ) (long : 512 ≤ length plan) where
  before : length (stretch plan 0 8) ≡ 8
  before = length-stretch plan 0 8 (omega arith)

  pub length-counting : length (counting v plan) ≡ 508
  unfolding counting
  length-counting = rw (length-append, before, length-append, length-bytes, length-stretch plan 10 508 (omega arith))

  pub length_header : length (header_counting v plan) ≡ 512
  unfolding header_counting
  length_header = length-sealed 1 (counting v plan) length-counting

  -- it is stored in its parts
  pub header_stored : (s a b c d : List ℕ) → 512 ≤ length s → a ≡ sets s 0 (stretch plan 0 8) → b ≡ sets a 8 (bytes 2 v) → c ≡ sets b 10 (stretch plan 10 508)
      → d ≡ sets c 508 (bytes 4 (check_of 1 (take 508 (drop 0 c)))) → d ≡ sets s 0 (header_counting v plan)
  unfolding counting header_counting
  header_stored s a b c d room p q r t =
      let eight : b ≡ sets s 0 (stretch plan 0 8 ++ bytes 2 v) = sets_behind s a b (stretch plan 0 8) (bytes 2 v) 0 8 p (omega (arith, before)) q in
      let body : c ≡ sets s 0 (counting v plan)
      = rw append_assoc at (sets_behind s b c (stretch plan 0 8 ++ bytes 2 v) (stretch plan 10 508) 0 10 eight (rw (length-append, before, length-bytes)) r) in
      put_sealed s c d 0 1 (counting v plan) length-counting (omega arith) body t

  -- ---- what is read of it, whatever follows

  module _ (rest : List ℕ) where
    abbrev pub file : List ℕ
    file = header_counting v plan ++ rest

    abbrev check : List ℕ
    check = bytes 4 (check_of 1 (counting v plan)) ++ rest

    parts : file ≡ stretch plan 0 8 ++ (bytes 2 v ++ (stretch plan 10 508 ++ check))
    unfolding header_counting counting sealed
    parts = simp append_assoc

    -- a byte before V
    pub first_byte : (k : ℕ) → k < 8 → get_or file k 0 ≡ get_or plan k 0
    first_byte k h = stretch_there file [] plan (bytes 2 v ++ (stretch plan 10 508 ++ check)) 0 8 parts refl (omega arith) k (omega arith) h

    -- and behind it, up to the check
    pub later_byte : (k : ℕ) → 10 ≤ k → k < 508 → get_or file k 0 ≡ get_or plan k 0
    later_byte =
        stretch_there file (stretch plan 0 8 ++ bytes 2 v) plan check 10 508 (parts ∙ simp append_assoc) (rw (length-append, before, length-bytes)) (omega arith)

    -- V
    pub vehicles_counted : v < 65536 → vehicle_count file ≡ v
    vehicles_counted h = number_there file (stretch plan 0 8) 2 v 8 (stretch plan 10 508 ++ check) parts before (omega arith)

    -- numbers likewise
    pub first_fields : (n at : ℕ) → at + n ≤ 8 → le_at n file at ≡ le_at n plan at
    first_fields n at h = le_at-same n file plan at (λ k a b. first_byte k (omega arith))

    pub later_fields : (n at : ℕ) → 10 ≤ at → at + n ≤ 508 → le_at n file at ≡ le_at n plan at
    later_fields n at l h = le_at-same n file plan at (λ k a b. later_byte k (omega arith) (omega arith))

    -- what follows it
    pub header_dropped : (n : ℕ) → drop (512 + n) file ≡ drop n rest
    header_dropped n = rw (← drop-drop, drop_at (header_counting v plan) rest 512 length_header)

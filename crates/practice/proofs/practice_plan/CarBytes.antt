-- What is read of a car's block: the id, what was drawn, and the vehicle's own bytes. Assumes nothing.
use Rattle.std.proofs.Common.{◌≡◌, ℕ, ◌^◌, ◌<◌, List, ◌++◌, length, ◌∙◌, append_assoc, arith, length-append}
use lib.Ieee.{Float, binary64, to_bits}
use Rattle.plan.specs.Bytes.{le_at, bytes, stretch}
use Rattle.plan.specs.Blocks.{check_of, sealed}
use Rattle.plan.proofs.bytes.Laws.{length-bytes, le_at-bytes, length-stretch, number_there, stretch_there}
use Rattle.practice.specs.PracticePlan.{car_bytes}
use Rattle.practice.specs.Promises.{Same}

module _ (vehicle : List ℕ) (long : length vehicle ≡ 512) (place id : ℕ) (start target : Float) (arrival : ℕ) where
  abbrev pub car : List ℕ
  car = sealed place (car_bytes vehicle id start target arrival)

  abbrev own : List ℕ
  own = stretch vehicle 4 16

  abbrev from : List ℕ
  from = bytes 8 (to_bits binary64 start)

  abbrev to : List ℕ
  to = bytes 8 (to_bits binary64 target)

  abbrev idle : List ℕ
  idle = stretch vehicle 32 40

  abbrev when : List ℕ
  when = bytes 8 arrival

  abbrev rest : List ℕ
  rest = stretch vehicle 48 508 ++ bytes 4 (check_of place (car_bytes vehicle id start target arrival))

  parts : car ≡ bytes 4 id ++ (own ++ (from ++ (to ++ (idle ++ (when ++ rest)))))
  unfolding sealed car_bytes
  parts = simp append_assoc

  length_own : length own ≡ 12
  length_own = length-stretch vehicle 4 16 (omega arith)

  length_idle : length idle ≡ 8
  length_idle = length-stretch vehicle 32 40 (omega arith)

  pub id_in : id < 256 ^ 4 → le_at 4 car 0 ≡ id
  id_in h = rw parts (le_at-bytes 4 id _ h)

  pub start_in : to_bits binary64 start < 256 ^ 8 → le_at 8 car 16 ≡ to_bits binary64 start
  start_in h = number_there car (bytes 4 id ++ own) 8 (to_bits binary64 start) 16 (to ++ (idle ++ (when ++ rest))) (parts ∙ simp append_assoc) (rw (length-append, length-bytes, length_own)) h

  pub target_in : to_bits binary64 target < 256 ^ 8 → le_at 8 car 24 ≡ to_bits binary64 target
  target_in h = number_there car (bytes 4 id ++ own ++ from) 8 (to_bits binary64 target) 24 (idle ++ (when ++ rest)) (parts ∙ simp append_assoc) (simp (length-append, length-bytes, length_own)) h

  pub arrival_in : arrival < 256 ^ 8 → le_at 8 car 40 ≡ arrival
  arrival_in h =
      number_there car (bytes 4 id ++ own ++ from ++ to ++ idle) 8 arrival 40 rest (parts ∙ simp append_assoc) (simp (length-append, length-bytes, length_own, length_idle)) h

  pub profile_same : Same car vehicle 4 16
  profile_same = stretch_there car (bytes 4 id) vehicle _ 4 16 parts (rw length-bytes) (omega arith)

  pub idle_same : Same car vehicle 32 40
  idle_same = stretch_there car (bytes 4 id ++ own ++ from ++ to) vehicle (when ++ rest) 32 40 (parts ∙ simp append_assoc) (simp (length-append, length-bytes, length_own)) (omega arith)

  pub rest_same : Same car vehicle 48 508
  rest_same =
      stretch_there car (bytes 4 id ++ own ++ from ++ to ++ idle ++ when) vehicle (bytes 4 (check_of place (car_bytes vehicle id start target arrival))) 48 508 (parts ∙ simp append_assoc) (simp (length-append, length-bytes, length_own, length_idle))
      (omega arith)

-- The output of a script: two bytes for each operation, by the state that it comes upon. Assumes nothing.
use Rattle.std.proofs.Common.{◌≡◌, ℕ, zero, suc, ◌+◌, ◌*◌, ◌<◌, ◌≤◌, List, [], ◌∷◌, map, length, take, get_or, Result, Ok, Err, refl, ◌∙◌, arith, le_of_suc-le-suc, not-suc-le-zero, zero-add, ◌/◌, length-take, length-append, get_or-append-add}
use lib.ListN.{get_or-append}
use Rattle.engine.specs.Plan.{Plan}
use Rattle.panel.specs.declared.panel.AccessRefusal.{AccessRefusal}
use Rattle.panel.specs.Panel.{Panel}
use Rattle.panel.specs.Script.{operation_of, answer_bytes, answer, done, played}
use Rattle.panel.specs.Call.{part_played}
use Rattle.panel.proofs.script.History.{done_all}

two_bytes : (a : Result ℕ AccessRefusal) → length (answer_bytes a) ≡ 2
two_bytes (Ok byte) = refl
two_bytes (Err x) = refl

module _ (plan : List ℕ) (p : Plan) where
  pub length_played : (script : List ℕ) (s : Panel) → length (played plan p script s) ≡ 2 * length script
  length_played [] s = refl
  length_played (x ∷ xs) s =
      rw length-append (omega (arith, two_bytes (answer plan p (operation_of x) s), length_played xs (done plan p (operation_of x) s)))

  -- the bytes of the i-th operation
  pub played_at : (script : List ℕ) (s : Panel) (i k : ℕ) → i < length script → k < 2
      → get_or (played plan p script s) (2 * i + k) 0
      ≡ get_or (answer_bytes (answer plan p (get_or (map operation_of script) i (operation_of 0)) (done_all p plan (take i (map operation_of script)) s))) k 0
  played_at [] s i k h l = absurd (not-suc-le-zero h)
  played_at (x ∷ xs) s zero k h l =
      rw zero-add (get_or-append (answer_bytes (answer plan p (operation_of x) s)) _ 0 k (omega (arith, two_bytes (answer plan p (operation_of x) s))))
  played_at (x ∷ xs) s (suc i) k h l =
      let first = answer_bytes (answer plan p (operation_of x) s) in
      let at : 2 * suc i + k ≡ length first + (2 * i + k) = omega (arith, two_bytes (answer plan p (operation_of x) s)) in
      rw at (get_or-append-add first (played plan p xs (done plan p (operation_of x) s)) (2 * i + k) 0)
      ∙ played_at xs (done plan p (operation_of x) s) i k (le_of_suc-le-suc h) l

-- the operations played have room
pub length_part : (script : List ℕ) (room : ℕ) → 2 * length (part_played script room) ≤ room
length_part script room = omega (arith, length-take (room / 2) script)

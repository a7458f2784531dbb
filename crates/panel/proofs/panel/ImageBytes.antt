-- The bytes of a cabinet's image. Assumes nothing.
use Rattle.std.proofs.Common.{◌≡◌, ℕ, zero, suc, ◌+◌, ◌-◌, ◌/◌, ◌<◌, ◌≤◌, List, [], ◌∷◌, ◌++◌, length, get_or, drop, sym, refl, ◌∙◌, zero-add, arith, le_of_suc-le-suc, not-suc-le-zero, get_or-append-add}
use lib.ListN.{get_or-append}
use lib.Seq.{sets, sets-eq}
use Rattle.power.specs.declared.charger_state.ChargerState.{ChargerState}
use Rattle.plan.specs.Bytes.{bytes}
use Rattle.plan.proofs.bytes.Laws.{length-bytes}
use Rattle.panel.specs.Registers.{Cabinet, byte_of}
use Rattle.panel.specs.Image.{status_byte, vehicle_id, energy_bits, image}

-- a byte of a number that is stored in eight bytes
pub of_stored : (new old : List ℕ) (v k : ℕ) → k < 8 → length old ≡ 8 → new ≡ sets old 0 (bytes 8 v) → get_or new k 0 ≡ get_or (bytes 8 v) k 0
of_stored new old v k h long e =
    let room : 0 + length (bytes 8 v) ≤ length old = omega (arith, length-bytes 8 v) in
    rw (e, rw zero-add at (sets-eq (bytes 8 v) old 0 room)) (get_or-append (bytes 8 v) (drop (length (bytes 8 v)) old) 0 k (omega (arith, length-bytes 8 v)))

-- a low byte is the same in a number of more bytes
pub same_byte : (n m v k : ℕ) → k < n → k < m → get_or (bytes n v) k 0 ≡ get_or (bytes m v) k 0
unfolding bytes
same_byte zero m v k h l = absurd (not-suc-le-zero h)
same_byte (suc n) zero v k h l = absurd (not-suc-le-zero l)
same_byte (suc n) (suc m) v zero h l = refl
same_byte (suc n) (suc m) v (suc k) h l = same_byte n m (v / 256) k (le_of_suc-le-suc h) (le_of_suc-le-suc l)

module _ (plan : List ℕ) (s : ChargerState) (x : Cabinet) where
  abbrev front : List ℕ
  front = status_byte s.status ∷ byte_of x.pending ∷ byte_of x.enable ∷ 0 ∷ []

  -- the vehicle's id stands at 4
  pub id_byte : (k : ℕ) → 4 ≤ k → k < 8 → get_or (bytes 8 (vehicle_id plan s)) (k - 4) 0 ≡ get_or (image plan s x) k 0
  unfolding image
  id_byte k h l =
      let id = bytes 4 (vehicle_id plan s) in
      let rest = bytes 8 (energy_bits s) in
      let at : k ≡ 4 + (k - 4) = omega arith in
      same_byte 8 4 (vehicle_id plan s) (k - 4) (omega arith) (omega arith)
      ∙ sym (rw (← at) at (get_or-append-add front (id ++ rest) (k - 4) 0) ∙ get_or-append id rest 0 (k - 4) (omega (arith, length-bytes 4 (vehicle_id plan s))))

  -- the energy at 8
  pub energy_byte : (k : ℕ) → 8 ≤ k → get_or (bytes 8 (energy_bits s)) (k - 8) 0 ≡ get_or (image plan s x) k 0
  unfolding image
  energy_byte k h =
      let id = bytes 4 (vehicle_id plan s) in
      let rest = bytes 8 (energy_bits s) in
      let at : k ≡ 4 + (4 + (k - 8)) = omega arith in
      let long : length id ≡ 4 = length-bytes 4 (vehicle_id plan s) in
      sym (rw (← at) at (get_or-append-add front (id ++ rest) (4 + (k - 8)) 0) ∙ rw long at (get_or-append-add id rest (k - 8) 0))

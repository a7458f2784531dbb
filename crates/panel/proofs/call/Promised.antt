-- What request 12 says of a call that is not refused. Assumes nothing.
use Rattle.std.proofs.Common.{◌≡◌, ◌≢◌, ℕ, zero, suc, ◌+◌, ◌*◌, ◌/◌, ◌%◌, ◌<◌, Bool, true, false, ltb, List, length, take, drop, get_or, sym, refl, ap, ◌∙◌, arith, lt-ltb, le-ltb, ltb-true, ltb-false, ne_eqb, add-zero, drop_at, ◌∷◌, ◌⊎◌, inl, inr, []}
use lib.ListN.{get_or-append}
use Rattle.std.proofs.lemmas.List.{get_or_default, length-map}
use Rattle.charger.specs.Lists.{tick}
use Rattle.power.specs.declared.charger_state.Status.{Status}
use Rattle.power.specs.declared.charger_state.Status.TheVariants.{Free, Charging, Idle, Finished}
use Rattle.power.specs.declared.charger_state.ChargerState.{ChargerState}
use Rattle.power.specs.ChargerState.{is_free, is_finished, empty}
use Rattle.engine.specs.Plan.{Plan}
use Rattle.engine.specs.SiteState.{free_at}
use Rattle.engine.specs.Timestep.{steps, run}
use Rattle.engine.specs.Demand.{nobody, last_at, free_by_steps}
use Rattle.engine.proofs.timestep.Opened.{free_by_steps_lem, none_finished_between}
use Rattle.plan.specs.Bytes.{bytes}
use Rattle.files.specs.Read.{read_plan}
use Rattle.files.specs.Book.{written}
use Rattle.panel.specs.declared.script.Operation.{Operation}
use Rattle.panel.specs.declared.script.Operation.TheVariants.{Rounds, Read, Write, Line}
use Rattle.panel.specs.Registers.{Cabinet, line, byte_of}
use Rattle.panel.specs.Image.{status_byte, image}
use Rattle.panel.specs.Panel.{Panel, at_charger, start}
use Rattle.panel.specs.Script.{operation_of, answer_bytes, rounds_in, answer, played}
use Rattle.panel.specs.Call.{part_played}
use Rattle.panel.specs.Promises.{operations, run_at, cabinet_at, Is, Gets, There, RefusesOutside, Accepts}
use Rattle.panel.proofs.panel.ImageBytes.{id_byte, energy_byte}
use Rattle.panel.proofs.script.History.{done_all, by_history_is, run_is}
use Rattle.panel.proofs.call.Played.{length_played, played_at}

-- ---- a free cabinet

zero_byte : (n k : ℕ) → get_or (bytes n 0) k 0 ≡ 0
unfolding bytes
zero_byte zero k = refl
zero_byte (suc n) zero = refl
zero_byte (suc n) (suc k) = zero_byte n k

-- what is free by its history has no car
free_status_at : (p : Plan) (ss : List ChargerState) (c : ℕ) → free_at p (steps p) ss c ≡ true → is_free (get_or ss c empty).status ≡ true
free_status_at p [] c h = cc
free_status_at p (s ∷ ss) zero h = h
free_status_at p (s ∷ ss) (suc c) h = free_status_at p ss c h

-- a charger between rounds has one of three bytes
three_bytes : (P : ℕ → Type 0) (s : Status) → is_finished s ≡ false → P (status_byte s) → P 0 ⊎ (P 3 ⊎ P 5)
three_bytes P Free h k = inl k
three_bytes P Charging h k = inr (inl k)
three_bytes P Idle h k = inr (inr k)
three_bytes P Finished h k = cc

module _ (plan : List ℕ) (s : ChargerState) (x : Cabinet) (free : is_free s.status ≡ true) where
  free_status : status_byte s.status ≡ 0
  free_status = go s.status free
    where
      go : (t : Status) → is_free t ≡ true → status_byte t ≡ 0
      go Free h = refl
      go Charging h = cc
      go Idle h = cc
      go Finished h = cc

  free_image : (k : ℕ) → k < 16 → k ≢ 1 → k ≢ 2 → get_or (image plan s x) k 0 ≡ 0
  unfolding image
  free_image zero h a b = free_status
  free_image (suc zero) h a b = absurd (a refl)
  free_image (suc (suc zero)) h a b = absurd (b refl)
  free_image (suc (suc (suc zero))) h a b = refl
  free_image (suc (suc (suc (suc k)))) h a b = go (ltb k 4) refl
    where
      go : (t : Bool) → ltb k 4 ≡ t → get_or (image plan s x) (suc (suc (suc (suc k)))) 0 ≡ 0
      go true e = sym (id_byte plan s x (suc (suc (suc (suc k)))) (omega arith) (omega (arith, ltb-true k 4 e))) ∙ rw free (zero_byte 8 _)
      go false e = sym (energy_byte plan s x (suc (suc (suc (suc k)))) (omega (arith, ltb-false k 4 e))) ∙ rw free (zero_byte 8 _)

-- ---- what the i-th operation gets

module _ (plan script old : List ℕ) where
  abbrev p : Plan
  p = read_plan plan

  abbrev part : List ℕ
  part = part_played script (length old)

  abbrev out : List ℕ
  out = played plan p part (start p)

  abbrev new : List ℕ
  new = written out old

  abbrev os : List Operation
  os = operations plan script old new

  -- the panel that the i-th operation comes upon
  abbrev state : ℕ → Panel
  state i = done_all p plan (take i os) (start p)

  abbrev bytes_at : ℕ → Operation → List ℕ
  bytes_at i o = answer_bytes (answer plan p o (state i))

  gets : (i : ℕ) (o : Operation) → Is plan script old new i o → Gets plan script old new i (get_or (bytes_at i o) 0 0) (get_or (bytes_at i o) 1 0)
  unfolding written
  gets i o h = (rw add-zero at (byte 0 (omega arith)), byte 1 (omega arith))
    where
      few : i < length part
      few = omega (arith, h.0, length-map part operation_of)

      byte : (k : ℕ) → k < 2 → get_or new (2 * i + k) 0 ≡ get_or (bytes_at i o) k 0
      byte k l =
          get_or-append out (drop (length out) old) 0 (2 * i + k) (omega (arith, few, length_played plan p part (start p)))
          ∙ (played_at plan p part (start p) i k few l ∙ ap (λ a. get_or (bytes_at i a) k 0) (get_or_default os i (operation_of 0) o h.0 ∙ h.1))

  -- what a read gets of a cabinet, and a line
  pub shows : (i c k : ℕ) → There plan script old new c → k < 16 → Is plan script old new i (Read (16 * c + k))
      → Gets plan script old new i 0 (get_or (image plan (at_charger (run_at plan script old new i) c) (cabinet_at plan script old new i c)) k 0)
  shows i c k there few h =
      let place : (16 * c + k) / 16 ≡ c = omega (arith, few) in
      let offset : (16 * c + k) % 16 ≡ k = omega (arith, few) in
      rw (place, lt-ltb c (length p.chargers) there, offset, run_is p plan (take i os), by_history_is p plan c there (take i os)) at (gets i (Read (16 * c + k)) h)

  pub raises : (i c : ℕ) → There plan script old new c → Is plan script old new i (Line c) → Gets plan script old new i 0 (tick (line (cabinet_at plan script old new i c)))
  raises i c there h = rw (lt-ltb c (length p.chargers) there, by_history_is p plan c there (take i os)) at (gets i (Line c) h)

  pub pending : (i c : ℕ) → There plan script old new c → Is plan script old new i (Read (16 * c + 1)) → Gets plan script old new i 0 (byte_of (cabinet_at plan script old new i c).pending)
  unfolding image
  pending i c there h = shows i c 1 there (omega arith) h

  pub enables : (i c : ℕ) → There plan script old new c → Is plan script old new i (Read (16 * c + 2)) → Gets plan script old new i 0 (byte_of (cabinet_at plan script old new i c).enable)
  unfolding image
  enables i c there h = shows i c 2 there (omega arith) h

  pub status : (i c : ℕ) → There plan script old new c → Is plan script old new i (Read (16 * c))
      → Gets plan script old new i 0 0 ⊎ (Gets plan script old new i 0 3 ⊎ Gets plan script old new i 0 5)
  unfolding image
  status i c there h =
      three_bytes (λ n. Gets plan script old new i 0 n) (at_charger (run_at plan script old new i) c).status
      (none_finished_between p (rounds_in (take i os)) c)
      (shows i c 0 there (omega arith) (rw add-zero h))

  pub free_zero : (i c k : ℕ) → There plan script old new c → k < 16 → k ≢ 1 → k ≢ 2 → free_by_steps (last_at c nobody (run_at plan script old new i).site.sessions) ≡ true
      → Is plan script old new i (Read (16 * c + k)) → Gets plan script old new i 0 0
  free_zero i c k there few a b free h =
      let n = rounds_in (take i os) in
      let vacant : is_free (at_charger (run p n) c).status ≡ true = free_status_at p (run p n).site.places c (sym (free_by_steps_lem p n c there) ∙ free) in
      let g = shows i c k there few h in
      (g.0, g.1 ∙ free_image plan (at_charger (run p n) c) (cabinet_at plan script old new i c) vacant k few a b)

  -- ---- operations that are done

  pub done : Accepts plan script old new
  done =
      record {
        rounds = λ i n h. gets i (Rounds n) h;
        pending = λ i c byte there h.
            let place : (16 * c + 1) / 16 ≡ c = omega arith in
            let offset : (16 * c + 1) % 16 ≡ 1 = omega arith in
            rw (place, lt-ltb c (length p.chargers) there, offset) at (gets i (Write (16 * c + 1) byte) h);
        enable = λ i c byte there h.
            let place : (16 * c + 2) / 16 ≡ c = omega arith in
            let offset : (16 * c + 2) % 16 ≡ 2 = omega arith in
            rw (place, lt-ltb c (length p.chargers) there, offset) at (gets i (Write (16 * c + 2) byte) h);
      }

  -- ---- refused operations

  pub outside : RefusesOutside plan script old new
  outside =
      record {
        read = λ i a far h. rw (le-ltb (a / 16) (length p.chargers) far) at (gets i (Read a) h);
        write = λ i a byte far h. rw (le-ltb (a / 16) (length p.chargers) far) at (gets i (Write a byte) h);
        line = λ i c far h. rw (le-ltb c (length p.chargers) far) at (gets i (Line c) h);
      }

  pub read_only : (i c k byte : ℕ) → There plan script old new c → k < 16 → k ≢ 1 → k ≢ 2 → Is plan script old new i (Write (16 * c + k) byte) → Gets plan script old new i 21 0
  read_only i c k byte there few a b h =
      let place : (16 * c + k) / 16 ≡ c = omega (arith, few) in
      let offset : (16 * c + k) % 16 ≡ k = omega (arith, few) in
      rw (place, lt-ltb c (length p.chargers) there, offset, ne_eqb k 1 a, ne_eqb k 2 b) at (gets i (Write (16 * c + k) byte) h)

  -- ---- the rest of the output

  pub past : drop (2 * length os) new ≡ drop (2 * length os) old
  unfolding written
  past =
      let long : length out ≡ 2 * length os = omega (arith, length_played plan p part (start p), length-map part operation_of) in
      rw (← long) (drop_at out (drop (length out) old) (length out) refl)

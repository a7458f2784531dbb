-- What is pending and enabled after some operations is what the history tells. Assumes nothing.
use Rattle.std.proofs.Common.{◌≡◌, ℕ, zero, suc, ◌+◌, ◌*◌, ◌/◌, ◌%◌, ◌<◌, ◌≤◌, Bool, true, false, cond, not, ◌&&◌, ◌||◌, ltb, leb, eqb, List, [], ◌∷◌, length, sym, refl, ap, ◌∙◌, subst, add-zero, add-suc, add-one, zero-add, arith, le-leb, ltb-false, eqb-true, eq-eqb, ne_eqb}
use borrow.Author.Tests.{eqb-false}
use Rattle.std.proofs.Math.Bool.{and-false, and-true, or-false, or_assoc}
use Rattle.std.proofs.lemmas.Bool.{lt-leb}
use native.Mathlib.Nat.{add_assoc}
use Rattle.charger.proofs.Lists.{by_cond}
use Rattle.engine.specs.Plan.{Plan}
use Rattle.engine.specs.Timestep as T
use Rattle.engine.specs.Timestep.{after, run}
use Rattle.engine.proofs.timestep.RunMoves.{after_add}
use Rattle.panel.specs.declared.registers.Bits.{Bits}
use Rattle.panel.specs.declared.script.Operation.{Operation}
use Rattle.panel.specs.declared.script.Operation.TheVariants.{Rounds, Read, Write, Line}
use Rattle.panel.specs.Registers.{Cabinet, bits_of, no_bits, with_cleared, with_enable}
use Rattle.panel.specs.Events.{CabinetEvent, comes, started, ended as freed}
use Rattle.panel.specs.Panel.{Panel, noticed, start, rounds, with_cabinet, with_byte, write}
use Rattle.panel.specs.Script.{asked, rounds_in, done}
use Rattle.panel.specs.History.{clears, clearing, enabled, came, by_history}
use Rattle.panel.proofs.events.Grow.{Grows, started_grows, freed_grows}
use Rattle.panel.proofs.script.Steps.{done_run}
use Rattle.panel.proofs.panel.Noticed.{grew, not_grown, rounds_are}

-- the address of a cabinet's byte, at pending or enable
at_offset : (a c k : ℕ) → 1 ≤ k → k ≤ 2 → eqb c (a / 16) ≡ true → eqb (a % 16) k ≡ eqb a (16 * c + k)
at_offset a c k some few e = go (eqb (a % 16) k) refl
  where
    go : (t : Bool) → eqb (a % 16) k ≡ t → t ≡ eqb a (16 * c + k)
    go true h = let same : a ≡ 16 * c + k = omega (arith, eqb-true c (a / 16) e, eqb-true (a % 16) k h) in sym (eq-eqb a (16 * c + k) same)
    go false h = sym (ne_eqb a (16 * c + k) (λ q. eqb-false (a % 16) k h (omega (arith, few))))

elsewhere : (a c k : ℕ) → k ≤ 2 → eqb c (a / 16) ≡ false → eqb a (16 * c + k) ≡ false
elsewhere a c k few e = ne_eqb a (16 * c + k) (λ q. eqb-false c (a / 16) e (omega (arith, few)))

-- what a write to an address leaves of the cabinet at c
abbrev after_write : ℕ → ℕ → ℕ → Cabinet → Cabinet
after_write a byte c x = cond (eqb a (16 * c + 1)) (with_cleared byte x) (cond (eqb a (16 * c + 2)) (with_enable byte x) x)

module _ (p : Plan) (plan : List ℕ) where
  -- the state after some operations
  abbrev pub done_all : List Operation → Panel → Panel
  done_all [] s = s
  done_all (o ∷ os) s = done_all os (done plan p o s)

  -- a write, at one cabinet of the plan
  written_at : (a byte c : ℕ) (s : Panel) → c < length p.chargers
      → (write p a byte s).cabinets c ≡ after_write a byte c (s.cabinets c)
  written_at a byte c s h = go (ltb (a / 16) (length p.chargers)) refl
    where
      here : (t : Bool) → eqb c (a / 16) ≡ t → cond t (with_byte (a % 16) byte (s.cabinets (a / 16))) (s.cabinets c)
          ≡ after_write a byte c (s.cabinets c)
      here true e = rw (← at_offset a c 1 (omega arith) (omega arith) e, ← at_offset a c 2 (omega arith) (omega arith) e, eqb-true c (a / 16) e) refl
      here false e = rw (elsewhere a c 1 (omega arith) e, elsewhere a c 2 (omega arith) e) refl

      go : (t : Bool) → ltb (a / 16) (length p.chargers) ≡ t → (cond t (with_cabinet (a / 16) (with_byte (a % 16) byte (s.cabinets (a / 16))) s) s).cabinets c
          ≡ after_write a byte c (s.cabinets c)
      go true e = here (eqb c (a / 16)) refl
      go false e =
          let apart : eqb c (a / 16) ≡ false = ne_eqb c (a / 16) (λ q. omega (arith, ltb-false (a / 16) (length p.chargers) e)) in
          rw (elsewhere a c 1 (omega arith) apart, elsewhere a c 2 (omega arith) apart) refl

  module _ (e : CabinetEvent) (g : Grows p e) (c k : ℕ) where
    -- nothing came behind all rounds
    none_came : (n : ℕ) → n ≤ k → came p e c k n ≡ false
    none_came zero h = refl
    none_came (suc n) h = rw (none_came n (omega arith), lt-leb k n (omega arith))

    -- some rounds more
    came_more : (n m : ℕ) → k ≤ n → (came p e c k n || comes e c (run p n) (after p m (run p n))) ≡ came p e c k (n + m)
    came_more n zero h = rw (add-zero, not_grown (e.times c (run p n).site.sessions)) (or-false (came p e c k n))
    came_more n (suc m) h =
        let a : ℕ = e.times c (run p n).site.sessions in
        let b : ℕ = e.times c (run p (n + m)).site.sessions in
        let d : ℕ = e.times c (run p (suc (n + m))).site.sessions in
        let known : Bool = came p e c k n in
        let middle : run p (n + m) ≡ after p m (run p n) = after_add p n m (T.start p) in
        let last : run p (suc (n + m)) ≡ after p (suc m) (run p n) = rw add-suc at (after_add p n (suc m) (T.start p)) in
        let next : run p (suc (n + m)) ≡ after p 1 (run p (n + m)) = rw add-one at (after_add p (n + m) 1 (T.start p)) in
        let low : a ≤ b = subst (λ (t : T.State). a ≤ e.times c t.site.sessions) (sym middle) (g.after c m (run p n)) in
        let high : b ≤ d = subst (λ (t : T.State). b ≤ e.times c t.site.sessions) (sym next) (g.after c 1 (run p (n + m))) in
        let before : (known || ltb a b) ≡ came p e c k (n + m)
        = subst (λ (t : T.State). (known || ltb a (e.times c t.site.sessions)) ≡ came p e c k (n + m)) (sym middle) (came_more n m h) in
        let whole : (known || ltb a d) ≡ (came p e c k (n + m) || ltb b d)
        = ap (λ t. known || t) (grew a b d low high) ∙ (sym (or_assoc known (ltb a b) (ltb b d)) ∙ ap (λ t. t || ltb b d) before) in
        let reached : leb k (n + m) ≡ true = le-leb k (n + m) (omega arith) in
        subst (λ (t : T.State). (known || ltb a (e.times c t.site.sessions)) ≡ came p e c k (n + suc m)) last (rw (add-suc, reached) whole)

  -- ---- one cabinet after some operations

  -- the cabinet at c after n rounds, by how many were asked for before the last clearing of each bit
  abbrev by_clearings : (c n s' e' : ℕ) → Bits → Cabinet
  by_clearings c n s' e' bits = record { pending = record { started = came p started c s' n; ended = came p freed c e' n }; enable = bits }

  -- what a state has, told by how many rounds were asked for, and how many before the last clearing of each bit
  pub record Tells (c n s' e' : ℕ) (bits : Bits) (s : Panel) : Type 0 where
    pub run : s.run ≡ run p n
    pub cabinet : s.cabinets c ≡ by_clearings c n s' e' bits
    pub started : s' ≤ n
    pub ended : e' ≤ n

  -- a bit is cleared just where a one is written
  cleared_came : (e : CabinetEvent) → Grows p e → (c k n : ℕ) (one : Bool) → (came p e c k n && not one) ≡ came p e c (cond one n k) n
  cleared_came e g c k n true = and-false (came p e c k n) ∙ sym (none_came e g c n n (omega arith))
  cleared_came e g c k n false = and-true (came p e c k n)

  module _ (c : ℕ) (there : c < length p.chargers) where
    tells_rounds : (m : ℕ) {n s' e' : ℕ} {bits : Bits} {s : Panel} → Tells c n s' e' bits s → Tells c (n + m) s' e' bits (rounds p m s)
    tells_rounds m {n} {s'} {e'} {bits} {s} t =
        let more : after p m s.run ≡ run p (n + m) = rw t.run (sym (after_add p n m (T.start p))) in
        let begun : noticed c s.run (after p m s.run) (s.cabinets c) ≡ by_clearings c (n + m) s' e' bits
        = rw (t.run, t.cabinet)
        (λ i. record {
          pending = record {
            started = came_more started (started_grows p) c s' n m t.started i;
            ended = came_more freed (freed_grows p) c e' n m t.ended i;
          };
          enable = bits;
        }) in
        rw rounds_are (record { run = more; cabinet = begun; started = omega (arith, t.started); ended = omega (arith, t.ended) })

    tells_written : (a byte : ℕ) {n s' e' : ℕ} {bits : Bits} {s : Panel} → Tells c n s' e' bits s
        → Tells c n (cond (clears started c a byte) n s') (cond (clears freed c a byte) n e') (cond (eqb a (16 * c + 2)) (bits_of byte) bits) (write p a byte s)
    tells_written a byte {n} {s'} {e'} {bits} {s} t =
        record {
          run = by_cond (λ (r : Panel). r.run ≡ run p n) (ltb (a / 16) (length p.chargers)) t.run t.run;
          cabinet = written_at a byte c s there ∙ rw t.cabinet (go (eqb a (16 * c + 1)) (eqb a (16 * c + 2)) refl refl);
          started = by_cond (λ (k : ℕ). k ≤ n) (clears started c a byte) (omega arith) t.started;
          ended = by_cond (λ (k : ℕ). k ≤ n) (clears freed c a byte) (omega arith) t.ended;
        }
      where
        go : (u v : Bool) → eqb a (16 * c + 1) ≡ u → eqb a (16 * c + 2) ≡ v
            → cond u (with_cleared byte (by_clearings c n s' e' bits)) (cond v (with_enable byte (by_clearings c n s' e' bits)) (by_clearings c n s' e' bits))
            ≡ by_clearings c n (cond (u && (bits_of byte).started) n s') (cond (u && (bits_of byte).ended) n e') (cond v (bits_of byte) bits)
        go true true h k = absurd (omega (arith, eqb-true a (16 * c + 1) h, eqb-true a (16 * c + 2) k))
        go true false h k =
            λ i. record {
              pending = record {
                started = cleared_came started (started_grows p) c s' n (bits_of byte).started i;
                ended = cleared_came freed (freed_grows p) c e' n (bits_of byte).ended i;
              };
              enable = bits;
            }
        go false true h k = refl
        go false false h k = refl

    pub told : (os : List Operation) {n s' e' : ℕ} {bits : Bits} {s : Panel} → Tells c n s' e' bits s
        → Tells c (n + rounds_in os) (clearing started c n s' os) (clearing freed c n e' os) (enabled c bits os) (done_all os s)
    told [] t = rw add-zero t
    told (Rounds m ∷ os) {n} t = rw (← add_assoc n m (rounds_in os)) (told os (tells_rounds m t))
    told (Read a ∷ os) t = rw zero-add (told os t)
    told (Write a byte ∷ os) t = rw zero-add (told os (tells_written a byte t))
    told (Line d ∷ os) t = rw zero-add (told os t)

    -- from the start on
    at_start : Tells c 0 0 0 no_bits (start p)
    at_start = record { run = refl; cabinet = refl; started = omega arith; ended = omega arith }

    pub by_history_is : (os : List Operation) → (done_all os (start p)).cabinets c ≡ by_history p c os
    by_history_is os = rw zero-add at (told os at_start).cabinet

  -- the run goes on by the rounds that were asked for
  done_all_run : (os : List Operation) (s : Panel) → (done_all os s).run ≡ after p (rounds_in os) s.run
  done_all_run [] s = refl
  done_all_run (o ∷ os) s =
      done_all_run os (done plan p o s) ∙ (ap (after p (rounds_in os)) (done_run p plan o s) ∙ sym (after_add p (asked o) (rounds_in os) s.run))

  pub run_is : (os : List Operation) → (done_all os (start p)).run ≡ run p (rounds_in os)
  run_is os = done_all_run os (start p)

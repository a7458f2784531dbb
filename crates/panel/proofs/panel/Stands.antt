-- What the program's panel stands for. Assumes nothing.
use Rattle.std.proofs.Common.{◌≡◌, ℕ, zero, suc, ◌<◌, ◌≤◌, replicate, Bool, true, false, cond, ◌&&◌, not, ltb, eqb, ◌≢◌, List, length, get_or, set, sym, refl, ap, ◌∙◌, subst, ⊎_elim, arith, ltb-true, eq-eqb, ne_eqb, get_or-set_same, get_or-set_other}
use Rattle.std.proofs.Math.Bool.{and-false, and-true}
use Rattle.std.proofs.lemmas.List.{get_or_default}
use Rattle.power.specs.declared.charger_state.ChargerState.{ChargerState}
use Rattle.power.specs.ChargerState.{empty}
use Rattle.engine.specs.declared.session.Session.{Session}
use Rattle.engine.specs.Plan.{Plan}
use Rattle.engine.specs.Timestep as T
use Rattle.engine.specs.Timestep.{after}
use Rattle.engine.specs.Code.Steps.{Running, step_state, RunDone}
use Rattle.engine.specs.declared.timestep.StepRun.{StepRun}
use Rattle.engine.proofs.timestep.Held as H
use Rattle.files.specs.declared.loaded.LoadedPlan.{LoadedPlan}
use Rattle.files.specs.Read.{charger_of, chargers_of, read_plan}
use Rattle.files.proofs.Accepted.{counted}
use Rattle.plan.specs.Places.{charger_block, charger_count}
use Rattle.plan.proofs.SearchLaws.{length-each}
use Rattle.charger.proofs.Lists.{by_cond}
use Rattle.panel.specs.declared.registers.Bits.{Bits}
use Rattle.panel.specs.declared.registers.Cabinet as Seen
use Rattle.panel.specs.declared.panel.Panel as Code
use Rattle.panel.specs.Registers.{Cabinet, no_bits, bits_of, with_cleared}
use Rattle.panel.specs.Events.{plug_ins, releases}
use Rattle.panel.specs.Panel.{noticed, start, rounds, with_cabinet, cabinet_of, offset_of, with_byte, write, at_charger}
use Rattle.panel.specs.Code.Seen.{cabinet_by, cleared_by, unused, sessions, seen_at, the_plan, model, SeenBy, Watches, Keeps}
use Rattle.panel.proofs.events.Grow.{started_grows, freed_grows}
use Rattle.panel.proofs.panel.Noticed.{grew, not_grown, rounds_are}

-- ---- rounds

module _ (p : Plan) (r : Seen.Cabinet) (c n : ℕ) (s : T.State) where
  -- what is pending is what was, and what came
  noticed_by : SeenBy r c s.site.sessions
      → noticed c s (after p n s) (cabinet_by r c s.site.sessions) ≡ cabinet_by r c (after p n s).site.sessions
  noticed_by h =
      λ i. record {
        pending = record {
          started = sym (grew r.plug_ins_seen _ _ h.plug_ins ((started_grows p).after c n s)) i;
          ended = sym (grew r.releases_seen _ _ h.releases ((freed_grows p).after c n s)) i;
        };
        enable = r.enable;
      }

  seen_still : SeenBy r c s.site.sessions → SeenBy r c (after p n s).site.sessions
  seen_still h =
      record {
        plug_ins = omega (arith, h.plug_ins, (started_grows p).after c n s);
        releases = omega (arith, h.releases, (freed_grows p).after c n s);
      }

module _ (x : Code.Panel) (n : ℕ) where
  pub rounds_keep : {p : Plan} → p ≡ the_plan x → Watches x → {run : StepRun}
      → step_state run.state run.time ≡ after p n (step_state x.run.state x.run.time) → Running x.loaded.site.now 0 run.state
      → Keeps x (rounds (the_plan x) n (model x)) (record { loaded = x.loaded; run = run; cabinets = x.cabinets })
  rounds_keep {p} e w {run} state fit =
      let s : T.State = step_state x.run.state x.run.time in
      let r : Code.Panel = record { loaded = x.loaded; run = run; cabinets = x.cabinets } in
      record {
        model =
            subst (λ q. model r ≡ rounds q n (model x)) e
            ((λ i. record { run = state i; cabinets = λ c. (subst (λ (t : T.State). cabinet_by (seen_at x c) c t.site.sessions ≡ noticed c s (after p n s) (cabinet_by (seen_at x c) c (sessions x))) (sym state) (sym (noticed_by p (seen_at x c) c n s (w.seen c)))) i })
            ∙ sym (rounds_are p n (model x)));
        watches = record {
          fit = fit;
          seen = λ c. subst (λ (t : T.State). SeenBy (seen_at x c) c t.site.sessions) (sym state) (seen_still p (seen_at x c) c n s (w.seen c));
        };
        loaded = refl;
      }

-- ---- the start

unused_all : (c : ℕ) → get_or (replicate 32 unused) c unused ≡ unused
unused_all c = go 32 c
  where
    go : (n c : ℕ) → get_or (replicate n unused) c unused ≡ unused
    go zero c = refl
    go (suc n) zero = refl
    go (suc n) (suc c) = go n c

-- a panel of which nothing was cleared yet, beside the start of its plan's run
pub starts : (loaded : LoadedPlan) {run : StepRun} → RunDone loaded.site.now 0 run
    → Keeps (record { loaded = loaded; run = run; cabinets = replicate 32 unused }) (start (read_plan loaded.plan.now)) (record { loaded = loaded; run = run; cabinets = replicate 32 unused })
starts loaded {run} done =
    let p : Plan = read_plan loaded.plan.now in
    let x : Code.Panel = record { loaded = loaded; run = run; cabinets = replicate 32 unused } in
    let at : step_state run.state run.time ≡ T.start p = done.state ∙ ap T.start loaded.loaded.read in
    let none : (c : ℕ) → cabinet_by (seen_at x c) c (sessions x) ≡ record { pending = no_bits; enable = no_bits }
    = λ c. subst (λ r. cabinet_by r c (sessions x) ≡ record { pending = no_bits; enable = no_bits }) (sym (unused_all c)) (subst (λ (t : T.State). cabinet_by unused c t.site.sessions ≡ record { pending = no_bits; enable = no_bits }) (sym at) refl) in
    record {
      model = λ i. record { run = at i; cabinets = λ c. none c i };
      watches = record { fit = done.fit; seen = λ c. subst (λ r. SeenBy r c (sessions x)) (sym (unused_all c)) (record { plug_ins = omega arith; releases = omega arith }) };
      loaded = refl;
    }

-- ---- a write

module _ (x : Code.Panel) (c : ℕ) (there : c < length x.cabinets) (r : Seen.Cabinet) where
  abbrev stored : Code.Panel
  stored = record { loaded = x.loaded; run = x.run; cabinets = set x.cabinets c r }

  at_place : (P : Seen.Cabinet → ℕ → Type 0) → P r c → ((i : ℕ) → i ≢ c → P (seen_at x i) i) → (i : ℕ) → P (seen_at stored i) i
  at_place P h k i =
      ⊎_elim (λ (e : i ≡ c). rw (e, get_or-set_same x.cabinets c r unused there) h) (λ (ne : i ≢ c). rw (get_or-set_other x.cabinets c i r unused ne) (k i ne)) (H.same_or_not i c)

  pub write_keeps : {y : Cabinet} → cabinet_by r c (sessions x) ≡ y → SeenBy r c (sessions x) → Watches x → Keeps x (with_cabinet c y (model x)) stored
  write_keeps {y} e s w =
      let new : (i : ℕ) → cabinet_by (seen_at stored i) i (sessions x) ≡ cond (eqb i c) y (cabinet_by (seen_at x i) i (sessions x))
      = at_place (λ q i. cabinet_by q i (sessions x) ≡ cond (eqb i c) y (cabinet_by (seen_at x i) i (sessions x))) (rw (eq-eqb c c refl) e) (λ i ne. rw (ne_eqb i c ne)) in
      record {
        model = λ i. record { run = (model x).run; cabinets = λ j. new j i };
        watches = record { fit = w.fit; seen = at_place (λ q i. SeenBy q i (sessions x)) s (λ i ne. w.seen i) };
        loaded = refl;
      }

  -- and of an address, whose byte is written into the cabinet
  pub byte_keeps : (address byte : ℕ) → c ≡ cabinet_of address → ltb c (length (the_plan x).chargers) ≡ true
      → cabinet_by r c (sessions x) ≡ with_byte (offset_of address) byte (cabinet_by (seen_at x c) c (sessions x)) → SeenBy r c (sessions x) → Watches x
      → Keeps x (write (the_plan x) address byte (model x)) stored
  byte_keeps address byte at has e s w = rw (← at, has) (write_keeps e s w)

-- a plan has at most 32 chargers
pub place_there : (x : Code.Panel) (c : ℕ) → ltb c (length (the_plan x).chargers) ≡ true → c < 32
unfolding chargers_of
place_there x c h =
    let plan = x.loaded.plan.now in
    omega (arith, ltb-true c (length (the_plan x).chargers) h, length-each (λ k. charger_of (charger_block plan k)) 0 (charger_count plan), (counted plan x.loaded.loaded.admitted).chargers)

-- the bits of ones are cleared
cleared_bit : (one : Bool) (seen came : ℕ) → ltb (cond one came seen) came ≡ (ltb seen came && not one)
cleared_bit true seen came = not_grown came ∙ sym (and-false (ltb seen came))
cleared_bit false seen came = sym (and-true (ltb seen came))

pub cleared_is : (byte c : ℕ) (xs : List Session) (r : Seen.Cabinet) → cabinet_by (cleared_by (bits_of byte) c xs r) c xs ≡ with_cleared byte (cabinet_by r c xs)
cleared_is byte c xs r =
    λ i. record {
      pending = record {
        started = cleared_bit (bits_of byte).started r.plug_ins_seen (plug_ins c xs) i;
        ended = cleared_bit (bits_of byte).ended r.releases_seen (releases c xs) i;
      };
      enable = r.enable;
    }

pub cleared_seen : (ones : Bits) (c : ℕ) (xs : List Session) (r : Seen.Cabinet) → SeenBy r c xs → SeenBy (cleared_by ones c xs r) c xs
cleared_seen ones c xs r h =
    record {
      plug_ins = by_cond (λ (n : ℕ). n ≤ plug_ins c xs) ones.started (omega arith) h.plug_ins;
      releases = by_cond (λ (n : ℕ). n ≤ releases c xs) ones.ended (omega arith) h.releases;
    }

-- a charger's state, from the list of all of them
pub found_at : (x : Code.Panel) → Watches x → (c : ℕ) → ltb c (length (the_plan x).chargers) ≡ true → (ss : List ChargerState) → ss ≡ x.run.state.bank.items → (d : ChargerState)
    → get_or ss c d ≡ at_charger (model x).run c
found_at x w c has ss e d =
    let same : length (the_plan x).chargers ≡ length x.loaded.site.now.chargers.items = ap (λ (p : Plan). length p.chargers) (sym x.loaded.loaded.read) in
    rw e (get_or_default x.run.state.bank.items c d empty (omega (arith, ltb-true c (length (the_plan x).chargers) has, same, w.fit.places)))

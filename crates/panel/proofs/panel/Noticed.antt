-- Some rounds at once: the run's, and at each cabinet the events that came in them. Assumes nothing.
use Rattle.std.proofs.Common.{◌≡◌, ℕ, zero, suc, ◌≤◌, Bool, true, false, cond, ◌||◌, ltb, sym, refl, ap, ◌∙◌, arith, lt-ltb, le-ltb, ltb-true, ltb-false}
use Rattle.std.proofs.Math.Bool.{or-false, or_assoc}
use Rattle.engine.specs.Plan.{Plan}
use Rattle.engine.specs.Timestep as T
use Rattle.engine.specs.Timestep.{ended, after}
use Rattle.panel.specs.Registers.{Cabinet}
use Rattle.panel.specs.Events.{CabinetEvent, comes, started, ended as freed}
use Rattle.panel.specs.Panel.{Panel, noticed, round, rounds}
use Rattle.panel.proofs.events.Grow.{Grows, started_grows, freed_grows}

-- a number grows over two steps just where it does over one of them
pub grew : (a b c : ℕ) → a ≤ b → b ≤ c → ltb a c ≡ (ltb a b || ltb b c)
grew a b c h k = go (ltb a b) refl
  where
    go : (t : Bool) → ltb a b ≡ t → ltb a c ≡ (t || ltb b c)
    go true e = lt-ltb a c (omega (arith, ltb-true a b e))
    go false e = let same : a ≡ b = omega (arith, ltb-false a b e) in ap (λ x. ltb x c) same

-- it does not grow over none
pub not_grown : (a : ℕ) → ltb a a ≡ false
not_grown a = le-ltb a a (omega arith)

module _ (p : Plan) where
  none_noticed : (c : ℕ) (s : T.State) (x : Cabinet) → noticed c s s x ≡ x
  none_noticed c s x =
      rw (not_grown (started.times c s.site.sessions), not_grown (freed.times c s.site.sessions), or-false x.pending.started, or-false x.pending.ended)

  -- over a round and some more
  joined : (e : CabinetEvent) → Grows p e → (c n : ℕ) (s : T.State) (b : Bool)
      → ((b || comes e c s (T.round p s)) || comes e c (T.round p s) (after p n (T.round p s))) ≡ (b || comes e c s (after p n (T.round p s)))
  joined e g c n s b = or_assoc b _ _ ∙ ap (λ t. b || t) (sym (grew _ _ _ (g.round c s) (g.after c n (T.round p s))))

  pub rounds_are : (n : ℕ) (s : Panel) → rounds p n s ≡ record { run = after p n s.run; cabinets = λ c. noticed c s.run (after p n s.run) (s.cabinets c) }
  rounds_are zero s = λ i. record { run = s.run; cabinets = λ c. sym (none_noticed c s.run (s.cabinets c)) i }
  rounds_are (suc n) s = go (ended p s.run) (rounds_are n (round p s))
    where
      go : (t : Bool) → rounds p n (round p s) ≡ record { run = after p n (T.round p s.run); cabinets = λ c. noticed c (T.round p s.run) (after p n (T.round p s.run)) (noticed c s.run (T.round p s.run) (s.cabinets c)) }
          → cond t s (rounds p n (round p s)) ≡ record { run = cond t s.run (after p n (T.round p s.run)); cabinets = λ c. noticed c s.run (cond t s.run (after p n (T.round p s.run))) (s.cabinets c) }
      go true h = λ i. record { run = s.run; cabinets = λ c. sym (none_noticed c s.run (s.cabinets c)) i }
      go false h =
          h ∙ (λ i. record {
            run = after p n (T.round p s.run);
            cabinets = λ c. record {
              pending = record {
                started = joined started (started_grows p) c n s.run (s.cabinets c).pending.started i;
                ended = joined freed (freed_grows p) c n s.run (s.cabinets c).pending.ended i;
              };
              enable = (s.cabinets c).enable;
            };
          })

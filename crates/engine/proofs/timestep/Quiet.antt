-- While no event is due, a run is `spin` over the chargers: only the round in which a charger is finished does more.
use Rattle.std.proofs.Common.{◌≡◌, ℕ, zero, suc, ◌+◌, ◌-◌, ◌≤◌, Bool, true, false, cond, List, [], ◌∷◌, sym, refl, ap, ◌∙◌, add-zero, suc-add, zero-add, arith}
use borrow.Author.Tests.{lt-leb}
use Rattle.engine.specs.declared.events.Event.{Event}
use Rattle.engine.specs.declared.session.Session.{Session}
use Rattle.engine.specs.Plan.{Plan}
use Rattle.engine.specs.SiteState.{SiteState}
use Rattle.power.specs.declared.charger_state.ChargerState.{ChargerState}
use Rattle.power.specs.ChargerState.{is_finished}
use Rattle.power.specs.Power.{charge}
use Rattle.power.specs.Code.Rounds.{any_finished, Spun, spin}
use Rattle.engine.specs.Timestep.{State, due, with_places, powered, closed, with_closed, finished, release_finished, round, ended, after}
use Rattle.engine.proofs.timestep.Units.{goes_on}
use Rattle.power.proofs.power.SameCars.{same_all_free, same_charged}

-- no event is due before `until`
abbrev pub NoneDue : ℕ → List Event → Type 0
NoneDue until [] = Unit {0}
NoneDue until (e ∷ es) = until ≤ e.time

none_sooner : (a b : ℕ) (es : List Event) → a ≤ b → NoneDue b es → NoneDue a es
none_sooner a b [] h q = q
none_sooner a b (e ∷ es) h q = omega arith

any_true : (ss : List ChargerState) → any_finished true ss ≡ true
any_true [] = refl
any_true (s ∷ ss) = go (is_finished s.status) (any_true ss)
  where
    go : (b : Bool) → any_finished true ss ≡ true → any_finished (cond b true true) ss ≡ true
    go true h = h
    go false h = h

-- if none is finished, the first is not and none of the others is
none_first : (s : ChargerState) (ss : List ChargerState) → any_finished false (s ∷ ss) ≡ false → is_finished s.status ≡ false
none_first s ss h = go (is_finished s.status) refl h
  where
    go : (b : Bool) → is_finished s.status ≡ b → any_finished (cond b true false) ss ≡ false → b ≡ false
    go true e k = sym (any_true ss) ∙ k
    go false e k = refl

none_rest : (s : ChargerState) (ss : List ChargerState) → any_finished false (s ∷ ss) ≡ false → any_finished false ss ≡ false
none_rest s ss h = rw (none_first s ss h) at h

module _ (t : Plan) where
  none_closed : (now : ℕ) (ss : List ChargerState) (xs : List Session) → any_finished false ss ≡ false → closed now ss xs ≡ xs
  none_closed now [] xs h = refl
  none_closed now (s ∷ ss) xs h = rw (none_first s ss h) (none_closed now ss xs (none_rest s ss h))

  none_finished : (c : ℕ) (ss : List ChargerState) → any_finished false ss ≡ false → finished c ss ≡ []
  none_finished c [] h = refl
  none_finished c (s ∷ ss) h = rw (none_first s ss h) (none_finished (suc c) ss (none_rest s ss h))

  pub not_due : (now : ℕ) (es : List Event) (f : SiteState ChargerState) → NoneDue (now + 1) es → due t now es f ≡ f
  not_due now [] f q = refl
  not_due now (e ∷ es) f q = rw (lt-leb e.time now (omega arith))

  -- the state r rounds later, p being what `spin` came to
  abbrev pub landed : ℕ → Spun → State → State
  landed r p s =
      let f = with_places t p.states s.site in
      record {
        site = cond p.any (release_finished t (s.time + r - 1) (with_closed t (s.time + r - 1) f)) f;
        time = s.time + r;
      }

  pub record Landed (n done : ℕ) (s : State) (p : Spun) : Type 0 where
    pub rounds : ℕ
    pub counted : p.rounds ≡ done + rounds
    pub lands : after t (rounds + n) s ≡ after t n (landed rounds p s)

  -- the next state, if none is finished
  abbrev on : State → State
  on s = record { site = powered t s.site; time = s.time + 1 }

  pub spin_lands : (k n done : ℕ) (s : State) → ended t s ≡ false → NoneDue (s.time + k) s.site.pending
      → Landed n done s (spin t.limit t.curve done k s.site.places)
  unfolding round
  spin_lands zero n done s o q = record { rounds = 0; counted = sym (add-zero done); lands = rw (zero-add, add-zero) }
  spin_lands (suc k) n done s o q =
      go (any_finished false (charge t.limit t.curve s.site.places)) refl
      (spin_lands k n (done + 1) (on s) (rw (same_all_free (same_charged t.limit t.curve s.site.places)) o) (none_sooner _ _ s.site.pending (omega arith) q))
    where
      after_one : round t s ≡ record { site = release_finished t s.time (with_closed t s.time (powered t s.site)); time = s.time + 1 }
      after_one = rw (not_due s.time s.site.pending s.site (none_sooner (s.time + 1) (s.time + suc k) s.site.pending (omega arith) q))

      go : (b : Bool) → any_finished false (charge t.limit t.curve s.site.places) ≡ b
          → Landed n (done + 1) (on s) (spin t.limit t.curve (done + 1) k (charge t.limit t.curve s.site.places))
          → Landed n done s
          (cond b (record { states = charge t.limit t.curve s.site.places; rounds = done + 1; any = true })
          (spin t.limit t.curve (done + 1) k (charge t.limit t.curve s.site.places)))
      go true e l =
          let back : s.time + 1 - 1 ≡ s.time = omega arith in
          record { rounds = 1; counted = refl; lands = rw (suc-add 0 n, zero-add) (goes_on t n s o ∙ ap (after t n) (after_one ∙ rw back)) }
      go false e l =
          let next : round t s ≡ on s =
          after_one ∙ rw (none_closed s.time (charge t.limit t.curve s.site.places) s.site.sessions e, none_finished 0 (charge t.limit t.curve s.site.places) e)
          in
          let later : s.time + 1 + l.rounds ≡ s.time + suc l.rounds = omega arith in
          record {
            rounds = suc l.rounds;
            counted = omega (arith, l.counted);
            lands = rw suc-add (goes_on t (l.rounds + n) s o ∙ ap (after t (l.rounds + n)) next ∙ l.lands ∙ rw later);
          }

-- The events due come first: after them a round, or a run of rounds, is the same as from the state before.
use Rattle.std.proofs.Common.{◌≡◌, ℕ, suc, ◌+◌, ◌<◌, Bool, true, false, cond, leb, List, [], ◌∷◌, sym, refl, ap, ◌∙◌, arith, leb-false}
use Rattle.engine.specs.declared.events.Event.{Event}
use Rattle.engine.specs.Plan.{Plan}
use Rattle.engine.specs.SiteState.{SiteState, with_pending, popped}
use Rattle.power.specs.declared.charger_state.ChargerState.{ChargerState}
use Rattle.engine.specs.Timestep.{State, steps, due, round, ended, after}
use Rattle.engine.proofs.timestep.Units.{goes_on}
use Rattle.engine.proofs.timestep.RunMoves.{pending_popped}
use Rattle.engine.proofs.timestep.Quiet.{NoneDue, not_due}

module _ (t : Plan) where
  -- once they are handled no event is due
  pub none_left : (now : ℕ) (es : List Event) (f : SiteState ChargerState) → f.pending ≡ es → NoneDue (now + 1) (due t now es f).pending
  none_left now [] f l = rw l tt
  none_left now (e ∷ es) f l =
      go (leb e.time now) refl
      (none_left now es (popped t (steps t) e es f) (pending_popped t e.kind e.time e.vehicle e.charger (with_pending es f)))
    where
      go : (b : Bool) → leb e.time now ≡ b → NoneDue (now + 1) (due t now es (popped t (steps t) e es f)).pending
          → NoneDue (now + 1) (cond b (due t now es (popped t (steps t) e es f)) f).pending
      go true h k = k
      go false h k =
          let later : now < e.time = leb-false e.time now h in
          rw l (omega arith)

  -- the state with the events due handled
  abbrev pub handled : State → State
  handled s = record { site = due t s.time s.site.pending s.site; time = s.time }

  pub round_handled : (s : State) → round t (handled s) ≡ round t s
  unfolding round
  round_handled s =
      let f = due t s.time s.site.pending s.site in
      let again : due t s.time f.pending f ≡ f = not_due t s.time f.pending f (none_left s.time s.site.pending s.site refl) in
      rw again

  -- a run goes on from there, unless that state looks ended: then the round is still counted
  pub after_handled : (n : ℕ) (s : State) → ended t s ≡ false → ended t (handled s) ≡ false → after t (suc n) s ≡ after t (suc n) (handled s)
  after_handled n s o h = goes_on t n s o ∙ ap (after t n) (sym (round_handled s)) ∙ sym (goes_on t n (handled s) h)

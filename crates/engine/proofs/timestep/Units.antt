-- Laws of a run by steps: the units used, and rounds in which nothing happens.
use Rattle.std.proofs.Common.{◌≡◌, ℕ, zero, suc, ◌+◌, ◌≤◌, Bool, true, false, cond, ◌⊎◌, List, [], ◌∷◌, refl, inl, inr, zero-add, arith}
use Rattle.engine.specs.declared.session.Session.{Session}
use Rattle.engine.specs.Plan.{Plan}
use Rattle.power.specs.declared.charger_state.ChargerState.{ChargerState}
use Rattle.power.specs.ChargerState.{is_free, all_free}
use Rattle.engine.specs.Timestep.{State, closed, finished, round, ended, start, after, run}
use Rattle.power.proofs.charger_state.Vacant.{free_unfinished, and_left, and_right}

module _ (t : Plan) where
  -- ---- all of the allowance is used, unless the run has ended

  unfoldable pub Used : ℕ → State → Type 0
  Used k s = (s.time ≤ k) × ((ended t s ≡ true) ⊎ (s.time ≡ k))

  used_after : (n k : ℕ) (s : State) → s.time + n ≡ k → Used k (after t n s)
  unfolding Used round
  used_after zero k s h = (omega arith, inr (omega arith))
  used_after (suc n) k s h = go (ended t s) refl (used_after n k (round t s) (omega arith))
    where
      go : (b : Bool) → ended t s ≡ b → Used k (after t n (round t s)) → Used k (cond b s (after t n (round t s)))
      go true e more = (omega arith, inl e)
      go false e more = more

  pub used : (n : ℕ) → Used n (run t n)
  used n = used_after n n (start t) (zero-add n)

  -- ---- while all chargers are free and no event is due, a round changes the time alone

  pub free_closed : (now : ℕ) (ss : List ChargerState) (xs : List Session) → all_free ss ≡ true → closed now ss xs ≡ xs
  free_closed now [] xs h = refl
  free_closed now (s ∷ ss) xs h =
      rw (free_unfinished s.status (and_left (is_free s.status) (all_free ss) h))
      (free_closed now ss xs (and_right (is_free s.status) (all_free ss) h))

  pub free_finished_lem : (c : ℕ) (ss : List ChargerState) → all_free ss ≡ true → finished c ss ≡ []
  free_finished_lem c [] h = refl
  free_finished_lem c (s ∷ ss) h =
      rw (free_unfinished s.status (and_left (is_free s.status) (all_free ss) h))
      (free_finished_lem (suc c) ss (and_right (is_free s.status) (all_free ss) h))

  pub goes_on : (n : ℕ) (s : State) → ended t s ≡ false → after t (suc n) s ≡ after t n (round t s)
  goes_on n s h = rw h

-- Laws of the two searches for a failing pair. Assumes nothing.
use Rattle.std.proofs.Common.{◌≡◌, ℕ, ◌+◌, ◌-◌, ◌≤◌, ◌<◌, true, false, Some, None, length, sym, ◌∙◌, lt-ltb, le-ltb}
use Rattle.engine.specs.Plan.{Plan}
use Rattle.plan.specs.Search.{first_index, short_of}
use Rattle.plan.proofs.SearchLaws.{first_again, first_found, first_none, short_some, short_past}
use Rattle.files.specs.Pairs.{failing_charger, fails_somewhere, failing_pair}

-- the vehicles before v fail nowhere
module _ (p : Plan) (v : ℕ) (on : first_index (fails_somewhere p) v (length p.vehicles - v) ≡ first_index (fails_somewhere p) 0 (length p.vehicles)) where
  -- v fails first at the charger c
  pub pair_met : (c : ℕ) → short_of (failing_charger p v) (length p.chargers) ≡ Some c → v < length p.vehicles → Some (v, c) ≡ failing_pair p
  unfolding failing_pair
  pair_met c f h =
      let n = length p.vehicles in
      let found = short_some (failing_charger p v) (length p.chargers) c f in
      let e = found.0 in
      let l = found.1 in
      let here : fails_somewhere p v ≡ true = rw (← e) (lt-ltb c (length p.chargers) l) in
      let at : first_index (fails_somewhere p) 0 n ≡ v = sym on ∙ first_found (fails_somewhere p) v n h here in
      rw (at, lt-ltb v n h, ← e)

  -- v fails nowhere
  pub pair_passed : short_of (failing_charger p v) (length p.chargers) ≡ None → v < length p.vehicles
      → first_index (fails_somewhere p) (v + 1) (length p.vehicles - (v + 1)) ≡ first_index (fails_somewhere p) 0 (length p.vehicles)
  pair_passed f h =
      let nowhere : fails_somewhere p v ≡ false = short_past (failing_charger p v) (length p.chargers) f in
      first_again (fails_somewhere p) v (length p.vehicles) h nowhere on

  -- there is no v
  pub pair_none : length p.vehicles ≤ v → None ≡ failing_pair p
  unfolding failing_pair
  pair_none h =
      let n = length p.vehicles in
      let at : first_index (fails_somewhere p) 0 n ≡ v = sym on ∙ first_none (fails_somewhere p) v n h in
      rw (at, le-ltb v n h)

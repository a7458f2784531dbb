-- Sessions closed one after another.
use Rattle.std.proofs.Common.{◌≡◌, ℕ, ◌+◌, ◌<◌, List, [], ◌∷◌, ◌++◌, length, get_or, take, refl, add-one}
use lib.Seq.{take-suc}
use Rattle.engine.specs.declared.session.Session.{Session}
use Rattle.power.specs.declared.charger_state.ChargerState.{ChargerState}
use Rattle.engine.specs.Timestep.{closed_at, closed}

closed_snoc : (time : ℕ) (ss : List ChargerState) (s : ChargerState) (xs : List Session) → closed time (ss ++ (s ∷ [])) xs ≡ closed_at time s (closed time ss xs)
closed_snoc time [] s xs = refl
closed_snoc time (r ∷ ss) s xs = closed_snoc time ss s (closed_at time r xs)

pub closed_more : (time i : ℕ) (ss : List ChargerState) (d : ChargerState) (xs : List Session) → i < length ss
    → closed time (take (i + 1) ss) xs ≡ closed_at time (get_or ss i d) (closed time (take i ss) xs)
closed_more time i ss d xs h = rw (add-one, take-suc ss i d h) (closed_snoc time (take i ss) (get_or ss i d) xs)

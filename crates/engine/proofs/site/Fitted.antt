-- Every session of a car that was plugged in is of a pair that fits, in both engines.
use Rattle.std.proofs.Common.{◌≡◌, ℕ, true}
use mathlib.Core.Bool.{false≢true}
use Rattle.charger.specs.Lists.{All, none, also}
use Rattle.charger.proofs.Lists.{all_append, and_true}
use Rattle.engine.specs.Plan.{Plan, fits}
use Rattle.engine.specs.SiteState.{Engine, SiteState, initial, uncharged, start_charging, free_at}
use Rattle.engine.specs.Discrete.{events}
use Rattle.engine.specs.Timestep.{steps}
use Rattle.engine.specs.Demand.{by_events, by_steps}
pub use Rattle.engine.proofs.site.Moves.{Fitted}
use Rattle.engine.proofs.site.Moves.{Moved, charges, balks, waits, reneges, misses, unplugs, frees, passes, progresses, Moves, then}
use Rattle.engine.proofs.site.Moves as M
use Rattle.engine.proofs.site.Laws.{Lawful}
use Rattle.engine.proofs.discrete.EventLaws as E
use Rattle.engine.proofs.timestep.RunMoves as R

module _ (p : Plan) {A : Type 0} (g : Engine A) (law : Lawful g) where
  plugged_in : (now v c : ℕ) → fits p v c ≡ true → Fitted p (g.session now v c)
  plugged_in now v c h o = rw (law.vehicle, law.charger) h

  fitted_moved : (f : SiteState A) {h : SiteState A} → Moved p g f h → All (Fitted p) f.sessions → All (Fitted p) h.sessions
  unfolding start_charging uncharged
  fitted_moved f (charges e es c l k a) s =
      all_append s (also (plugged_in e.time e.vehicle c (and_true (free_at p g f.places c) (fits p e.vehicle c) a).1) none)
  fitted_moved f (balks e es l k) s = all_append s (also (λ o. absurd (false≢true o)) none)
  fitted_moved f (waits e es l k a b) s = s
  fitted_moved f (reneges e es q v r w l k x) s = all_append s (also (λ o. absurd (false≢true o)) none)
  fitted_moved f (misses e es l k) s = s
  fitted_moved f (unplugs e es l k) s = s
  fitted_moved f (frees c a) s = s
  fitted_moved f (passes now c q v r x a) s = all_append s (also (plugged_in now v c a) none)
  fitted_moved f (progresses w) s = w.fitted s

  fitted_moves : {h : SiteState A} → Moves p g (initial p g) h → All (Fitted p) h.sessions
  fitted_moves M.none = none
  fitted_moves (then {h = h} m s) = fitted_moved h s (fitted_moves m)

pub fitted_by_events : (p : Plan) (n : ℕ) → All (Fitted p) (by_events p n).sessions
fitted_by_events p n = fitted_moves p (events p) (E.lawful p) (E.run_moves p n)

pub fitted_by_steps : (p : Plan) (n : ℕ) → All (Fitted p) (by_steps p n).sessions
fitted_by_steps p n = fitted_moves p (steps p) (R.lawful p) (R.run_reached p n).moves

-- No fleet's queue exceeds its places, in both engines. The balk test is opened here and where the code is held to it.
use Rattle.std.proofs.Common.{◌≡◌, ℕ, ◌+◌, ◌<◌, ◌≤◌, Bool, true, false, ◌||◌, List, [], ◌∷◌, ◌++◌, refl, arith, eqb-true, le-leb, leb-false}
use mathlib.Core.Bool.{false≢true}
use Rattle.charger.specs.Fleet.{of_fleet, queued_of, places_of, fleet_full}
use Rattle.charger.specs.Lists.{tick, count}
use Rattle.charger.proofs.Lists.{count-append}
use Rattle.engine.specs.Plan.{Plan, vehicle}
use Rattle.engine.specs.SiteState.{Engine, SiteState, initial, start_charging, limit_reached, balks as balks_at}
use Rattle.engine.specs.Discrete.{events}
use Rattle.engine.specs.Timestep.{steps}
use Rattle.engine.specs.Demand.{by_events, by_steps}
use Rattle.engine.specs.Fleets.{FleetsWithin}
use Rattle.engine.proofs.site.Moves.{Moved, charges, balks, waits, reneges, misses, unplugs, frees, passes, progresses, Moves, then}
use Rattle.engine.proofs.site.Moves as M
use Rattle.engine.proofs.discrete.EventLaws as E
use Rattle.engine.proofs.timestep.RunMoves as R

or_false : (a b : Bool) → (a || b) ≡ false → b ≡ false
or_false true b h = absurd (false≢true (rw h))
or_false false b h = h

module _ (p : Plan) where
  -- a vehicle that does not balk finds a place of its fleet's free
  place_free : (v fleet : ℕ) (queue : List ℕ) → balks_at p.vehicles p.queue_places v queue ≡ false → (vehicle p v).fleet ≡ fleet → 1 ≤ fleet
      → queued_of p.vehicles fleet queue < places_of p.queue_places fleet
  unfolding balks_at fleet_full
  place_free v fleet queue h e one =
      let full = or_false (limit_reached p.vehicles v queue) _ h in
      leb-false (places_of p.queue_places fleet) (queued_of p.vehicles fleet queue) (rw (e, le-leb 1 fleet one) at full)

  -- one more is queued
  queued_more : (v fleet : ℕ) (queue : List ℕ) → balks_at p.vehicles p.queue_places v queue ≡ false → 1 ≤ fleet
      → queued_of p.vehicles fleet queue ≤ places_of p.queue_places fleet → queued_of p.vehicles fleet (queue ++ (v ∷ [])) ≤ places_of p.queue_places fleet
  unfolding queued_of
  queued_more v fleet queue h one w = rw count-append (go (of_fleet p.vehicles fleet v) refl)
    where
      go : (b : Bool) → of_fleet p.vehicles fleet v ≡ b
          → count (of_fleet p.vehicles fleet) queue + (tick b + 0) ≤ places_of p.queue_places fleet
      go true e = omega (arith, place_free v fleet queue h (eqb-true (vehicle p v).fleet fleet e) one)
      go false e = omega arith

  -- one less
  queued_less : (fleet : ℕ) (q : List ℕ) (v : ℕ) (r : List ℕ) → queued_of p.vehicles fleet (q ++ r) ≤ queued_of p.vehicles fleet (q ++ (v ∷ r))
  unfolding queued_of
  queued_less fleet q v r = omega (arith, count-append (of_fleet p.vehicles fleet) q r, count-append (of_fleet p.vehicles fleet) q (v ∷ r))

  module _ {A : Type 0} (g : Engine A) where
    fleets_moved : (f : SiteState A) {h : SiteState A} → Moved p g f h → FleetsWithin p f.queue → FleetsWithin p h.queue
    unfolding start_charging
    fleets_moved f (charges e es c l k a) w = w
    fleets_moved f (balks e es l k) w = w
    fleets_moved f (waits e es l k a b) w = λ fleet one. queued_more e.vehicle fleet f.queue b one (w fleet one)
    fleets_moved f (reneges e es q v r o l k x) w = λ fleet one. omega (arith, queued_less fleet q v r, rw x at (w fleet one))
    fleets_moved f (misses e es l k) w = w
    fleets_moved f (unplugs e es l k) w = w
    fleets_moved f (frees c a) w = w
    fleets_moved f (passes now c q v r x a) w = λ fleet one. omega (arith, queued_less fleet q v r, rw x at (w fleet one))
    fleets_moved f (progresses o) w = rw o.queue w

    fleets_moves : {h : SiteState A} → Moves p g (initial p g) h → FleetsWithin p h.queue
    unfolding queued_of
    fleets_moves M.none = λ fleet one. omega arith
    fleets_moves (then {h = h} m s) = fleets_moved h s (fleets_moves m)

pub fleets_by_events : (p : Plan) (n : ℕ) → FleetsWithin p (by_events p n).queue
fleets_by_events p n = fleets_moves p (events p) (E.run_moves p n)

pub fleets_by_steps : (p : Plan) (n : ℕ) → FleetsWithin p (by_steps p n).queue
fleets_by_steps p n = fleets_moves p (steps p) (R.run_reached p n).moves

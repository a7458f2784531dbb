-- The rules with one vehicle more at the end of the plan: of the vehicles before it they say the same.
use mathlib.Core.Path.{◌≡◌, refl, ap, fun_ext, ◌∙◌}
use mathlib.Core.Bool.{Bool, true, false}
use mathlib.Core.List.{List, [], ◌∷◌, ◌++◌}
use Prim.Native.Nat.{ℕ, zero, suc, ◌+◌, ◌<◌}
use native.Mathlib.Omega.{arith}
use lib.Dec.{eqb}
use lib.ListN.{length, get_or-append}
use Rattle.charger.specs.declared.vehicle.Vehicle.{Vehicle}
use Rattle.charger.specs.First.{Found, nobody, found, first}
use Rattle.charger.specs.Lists.{All, none, also}
use Rattle.charger.specs.Vehicle.{no_vehicle, compatible}
use Rattle.charger.specs.Fleet.{queued_of, fleet_full}
use Rattle.charger.proofs.Lists.{count_alike, all_map, all_head, all_right, Searched, missed, met, searched}
use Rattle.engine.specs.declared.events.Event.{Event}
use Rattle.engine.specs.declared.events.EventType.{EventType}
use Rattle.engine.specs.declared.events.EventType.TheVariants.{Arrival, Renege, Unplug}
use Rattle.engine.specs.Plan.{Plan, vehicle, fits, rated, output, stay, row_at}
use Rattle.engine.specs.Events.{arrival, renege, unplug, push}
use Rattle.engine.specs.SiteState.{SiteState, below, balks, with_pending, with_queue, turned_away, freed, start_charging, free_at, available, arrived, reneged, passed_on, handle}
use Rattle.engine.specs.Discrete.{Occupant, charged_session, events}
use Rattle.late_booking.specs.LateCar.{with_vehicle, joined}
use Rattle.late_booking.proofs.late.Pushes.{push_swap}

module _ (p : Plan) (x : Vehicle) where
  abbrev q : Plan
  q = with_vehicle x p

  abbrev v : ℕ
  v = length p.vehicles

  -- ---- of a vehicle of the plan

  module _ (w : ℕ) (h : w < v) where
    same_vehicle : vehicle q w ≡ vehicle p w
    same_vehicle = get_or-append p.vehicles (x ∷ []) no_vehicle w h

    same_fits : (c : ℕ) → fits q w c ≡ fits p w c
    unfolding fits
    same_fits c = ap (compatible (row_at p.connectors c)) same_vehicle

    same_output : (c : ℕ) → output q w c ≡ output p w c
    unfolding output rated
    same_output c = rw same_vehicle

    same_stay : (c : ℕ) → stay q w c ≡ stay p w c
    unfolding stay
    same_stay c = rw (same_vehicle, same_output c)

    same_session : (now c : ℕ) → charged_session q now w c ≡ charged_session p now w c
    unfolding charged_session
    same_session now c = rw (same_vehicle, same_output c, same_stay c)

  -- which chargers are free does not go by the plan
  same_free : (l : List Occupant) (c : ℕ) → free_at q (events q) l c ≡ free_at p (events p) l c
  same_free [] c = refl
  same_free (o ∷ l) zero = refl
  same_free (o ∷ l) (suc c) = same_free l c

  -- who is found among vehicles of the plan
  same_first : (c : ℕ) (l : List ℕ) → All (λ w. w < v) l → first (λ w. fits q w c) l ≡ first (λ w. fits p w c) l
  same_first c [] none = refl
  same_first c (w ∷ l) (also h hs) = rw (same_fits w h c, same_first c l hs)

  -- ---- the site with the vehicle yet to arrive

  abbrev pub late : SiteState Occupant → SiteState Occupant
  late f = with_pending (joined v x f.pending) f

  -- the unplug of a vehicle of the plan does not mind the two events
  same_pend : (t w c : ℕ) (es : List Event) → push (unplug t w c) (joined v x es) ≡ joined v x (push (unplug t w c) es)
  same_pend t w c es =
      let a = arrival x.arrival v in
      let r = renege (x.arrival + x.wait) v in
      let u = unplug t w c in
      push_swap u r (push a es) (λ e. absurd (omega arith)) ∙ ap (push r) (push_swap u a es (λ e. absurd (omega arith)))

  same_start : (now w c : ℕ) (f : SiteState Occupant) → w < v → start_charging q (events q) now w c (late f) ≡ late (start_charging p (events p) now w c f)
  unfolding start_charging
  same_start now w c f h =
      let pend = ap (λ (t : ℕ). push (unplug (now + t) w c) (joined v x f.pending)) (same_stay w h c) ∙ same_pend (now + stay p w c) w c f.pending in
      rw (pend, same_session w h now c)

  -- ---- what an event does

  -- the whole fleet that is queued is of the plan
  same_queued : (fleet : ℕ) (l : List ℕ) → All (λ u. u < v) l → queued_of q.vehicles fleet l ≡ queued_of p.vehicles fleet l
  unfolding queued_of
  same_queued fleet l h = count_alike (all_map (λ u b. ap (λ (y : Vehicle). eqb y.fleet fleet) (same_vehicle u b)) h)

  same_balks : (w : ℕ) (l : List ℕ) → w < v → All (λ u. u < v) l → balks q.vehicles q.queue_places w l ≡ balks p.vehicles p.queue_places w l
  unfolding balks fleet_full
  same_balks w l h all = rw (same_vehicle w h, same_queued (vehicle p w).fleet l all)

  on_arrival : (now w : ℕ) (f : SiteState Occupant) → w < v → All (λ u. u < v) f.queue → (r : Found) → arrived q (events q) now w (late f) r ≡ late (arrived p (events p) now w f r)
  on_arrival now w f h all nobody = rw (same_balks w f.queue h all) (away (balks p.vehicles p.queue_places w f.queue))
    where
      away : (b : Bool) → turned_away w (late f) b ≡ late (turned_away w f b)
      away true = refl
      away false = refl
  on_arrival now w f h all (found c rest) = same_start now w c f h

  on_renege : (now w : ℕ) (f : SiteState Occupant) → All (λ u. u < v) f.queue → {r : Found} → Searched (eqb w) f.queue r
      → reneged q (events q) now (late f) r ≡ late (reneged p (events p) now f r)
  on_renege now w f h (missed a) = refl
  on_renege now w f h (met s u t a b e) = rw (same_vehicle u (all_head (all_right s (rw e at h))))

  on_unplug : (now c : ℕ) (f : SiteState Occupant) → All (λ u. u < v) f.queue → {r : Found} → Searched (λ u. fits p u c) f.queue r
      → passed_on q (events q) now c (late f) r ≡ late (passed_on p (events p) now c f r)
  on_unplug now c f h (missed a) = refl
  on_unplug now c f h (met s u t a b e) = same_start now u c (with_queue (s ++ t) (freed p (events p) c f)) (all_head (all_right s (rw e at h)))

  -- an event of the plan's does the same, whether the vehicle is yet to arrive or not
  pub same_handled : (k : EventType) (now w c : ℕ) (f : SiteState Occupant) → w < v → All (λ u. u < v) f.queue
      → handle q (events q) k now w c (late f) ≡ late (handle p (events p) k now w c f)
  same_handled Arrival now w c f h all =
      let same : available q (events q) (late f) w ≡ available p (events p) f w = fun_ext (λ d. rw (same_free f.places d, same_fits w h d)) in
      rw same (on_arrival now w f h all (first (available p (events p) f w) (below (length p.chargers))))
  same_handled Renege now w c f h all = on_renege now w f all (searched (eqb w) f.queue)
  same_handled Unplug now w c f h all = rw (same_first c f.queue all) (on_unplug now c f all (searched (λ u. fits p u c) f.queue))

-- What an event comes to, from what the code finds out: for both engines.
use Rattle.std.proofs.Common.{◌≡◌, ℕ, ◌<◌, Bool, true, false, List, length, replicate, refl, arith}
use Rattle.charger.specs.declared.vehicle.Vehicle.{Vehicle}
use Rattle.charger.specs.First.{nobody, found, first}
use Rattle.std.specs.Prelude.{Some, None}
use Rattle.engine.specs.declared.events.EventType.TheVariants.{Arrival}
use Rattle.engine.specs.declared.site.Simulation.{Simulation}
use Rattle.engine.specs.Plan.{Plan, vehicle, fits}
use Rattle.engine.specs.SiteState.{Engine, SiteState, balks, with_queue, turned_away, initial, freed, start_charging, free_at, available, release, handle}
use Rattle.engine.specs.Code.Simulation.{site_state, Takes, FirstBelow, AtStart}
use Rattle.engine.proofs.site.Places.{below_missed, below_met}
use Rattle.engine.proofs.site.Simulations.{same_site}

module _ (p : Plan) {A : Type 0} (g : Engine A) where
  -- the state before the first event
  pub starts : {r : Simulation} → AtStart p.vehicles r → site_state r (replicate (length p.chargers) g.empty) ≡ initial p g
  starts s = same_site s.pending s.queue refl s.sessions

  -- ---- an arrival, where `free` answers which chargers are free
  module _ (f : SiteState A) (time v c : ℕ) (free : ℕ → Bool → Type 0) (x : Vehicle)
      (same : (i : ℕ) (b : Bool) → i < length p.chargers → free i b → b ≡ free_at p g f.places i) (who : x ≡ vehicle p v) where
    taken_available : (i : ℕ) (b : Bool) → i < length p.chargers → Takes free p.connectors x i b → available p g f v i ≡ b
    unfolding fits
    taken_available i b h t = rw (t.2, same i t.0 h t.1, who) refl

    -- the search for a charger found one
    pub arrival_charges : (k : ℕ) → FirstBelow (Takes free p.connectors x) (length p.chargers) (Some k) → handle p g Arrival time v c f ≡ start_charging p g time v k f
    arrival_charges k h =
        rw (below_met (available p g f v) (length p.chargers) k h.0 (taken_available k true h.0 h.1) (λ i l. taken_available i false (omega (arith, h.0)) (h.2 i l)))

    -- or none
    pub arrival-turned : FirstBelow (Takes free p.connectors x) (length p.chargers) None → handle p g Arrival time v c f ≡ turned_away v f (balks p.vehicles p.queue_places v f.queue)
    arrival-turned h = rw (below_missed (available p g f v) (length p.chargers) (λ i l. taken_available i false l (h i l)))

  -- ---- a freed charger, by what was popped off the queue
  module _ (f : SiteState A) (time c : ℕ) where
    pub release_passes : (v : ℕ) (rest : List ℕ) → first (λ w. fits p w c) f.queue ≡ found v rest
        → release p g time c f ≡ start_charging p g time v c (with_queue rest (freed p g c f))
    release_passes v rest e = rw e

    pub release_frees : first (λ w. fits p w c) f.queue ≡ nobody → release p g time c f ≡ freed p g c f
    release_frees e = rw e

-- What a dump says by a longer plan: what it says by the plan, as long as no session is of the car. Assumes nothing.
use mathlib.Core.Path.{◌≡◌, refl, sym, ◌∙◌}
use mathlib.Core.List.{List, [], ◌∷◌, ◌++◌, map}
use Prim.Native.Nat.{ℕ, suc, ◌<◌}
use native.Mathlib.Nat.{zero-add}
use native.Mathlib.Omega.{arith}
use borrow.Author.Tests.{ltb-true, lt-ltb}
use lib.Dec.{ltb}
use Rattle.charger.specs.Lists.{All, none, also}
use Rattle.charger.specs.Vehicle.{no_vehicle, vehicle_at}
use Rattle.engine.specs.Discrete.{Occupant, no_car, car as here}
use Rattle.engine.specs.declared.events.Event.{Event}
use Rattle.engine.specs.declared.events.EventType.{EventType}
use Rattle.engine.specs.declared.events.EventType.TheVariants.{Arrival, Renege, Unplug}
use Rattle.engine.specs.declared.session.Session.{Session}
use Rattle.plan.specs.Places.{charger_count, vehicle_count}
use Rattle.plan.specs.declared.places.Kind.TheVariants.{Charger, Vehicle}
use Rattle.plan.proofs.SearchLaws.{each_at}
use Rattle.files.specs.Read.{connector_rows, vehicle_in, vehicles_of}
use Rattle.files.specs.BookSession.{vehicle_number, charger_id, entry, book_sessions}
use Rattle.files.specs.Code.Reading.{Counted}
use Rattle.dump.specs.EventBlocks.{block_by, event_bytes}
use Rattle.dump.specs.Dump.{queue_blocks, busy_at, busy_blocks}
use Rattle.late_booking.specs.LongerPlan.{longer}
use Rattle.late_booking.proofs.longer.Reading.{cond_same, same_profiles, same_chargers, one_more, same_place, charger-block, vehicle-block, same_rows, same_vehicle}

module _ (plan car : List ℕ) (c : Counted plan) where
  -- ---- the sessions

  -- a number of a vehicle's block
  same_number : (v at : ℕ) → v < vehicle_count plan → vehicle_number (longer plan car) v at ≡ vehicle_number plan v at
  unfolding vehicle_number
  same_number v at h =
      rw (lt-ltb v (vehicle_count (longer plan car)) (omega (arith, one_more plan car c)), lt-ltb v (vehicle_count plan) h, vehicle-block plan car c v h)

  -- a charger's id
  same_charger : (i : ℕ) → charger_id (longer plan car) i ≡ charger_id plan i
  unfolding charger_id
  same_charger i =
      rw (same_chargers plan car c)
      (cond_same (ltb i (charger_count plan)) 0 (λ e. rw (charger-block plan car c i (ltb-true i (charger_count plan) e))))

  -- a vehicle
  same_car : (v : ℕ) → v < vehicle_count plan → vehicle_at (vehicles_of (longer plan car)) v ≡ vehicle_at (vehicles_of plan) v
  unfolding vehicles_of
  same_car v h =
      each_at (vehicle_in (longer plan car)) 0 (vehicle_count (longer plan car)) v no_vehicle (omega (arith, one_more plan car c))
      ∙ rw zero-add (same_vehicle plan car c v h) ∙ sym (each_at (vehicle_in plan) 0 (vehicle_count plan) v no_vehicle h)

  pub same_entry : (x : Session) → x.vehicle < vehicle_count plan
      → entry (longer plan car) (vehicles_of (longer plan car)) (connector_rows (longer plan car)) x ≡ entry plan (vehicles_of plan) (connector_rows plan) x
  same_entry x h =
      rw (same_number x.vehicle 0 h, same_number x.vehicle 4 h, same_charger x.charger, same_rows plan car c, same_car x.vehicle h)

  pub same_sessions : (xs : List Session) → All (λ x. x.vehicle < vehicle_count plan) xs → book_sessions (longer plan car) xs ≡ book_sessions plan xs
  unfolding book_sessions
  same_sessions xs none = refl
  same_sessions xs (also {x = x} {xs = rest} h hs) = λ i. same_entry x h i ∷ same_sessions rest hs i

  -- ---- the blocks that are named

  same_named : (kind : EventType) (v i : ℕ) → block_by (longer plan car) kind v i ≡ block_by plan kind v i
  same_named Arrival v i = same_place plan car c Vehicle v
  same_named Renege v i = same_place plan car c Vehicle v
  same_named Unplug v i = same_place plan car c Charger i

  pub same_event : (e : Event) → event_bytes (longer plan car) e ≡ event_bytes plan e
  unfolding event_bytes
  same_event e = rw (same_named e.kind e.vehicle e.charger)

  pub same_queue : (q : List ℕ) → queue_blocks (longer plan car) q ≡ queue_blocks plan q
  same_queue q = λ j. map (λ (v : ℕ). same_place plan car c Vehicle v j) q

  same_at : (i : ℕ) (x : Occupant) → busy_at (longer plan car) i x ≡ busy_at plan i x
  same_at i no_car = refl
  same_at i (here v) = rw (same_profiles plan car c, same_chargers plan car c)

  pub same_busy : (i : ℕ) (xs : List Occupant) → busy_blocks (longer plan car) i xs ≡ busy_blocks plan i xs
  same_busy i [] = refl
  same_busy i (x ∷ xs) = λ j. same_at i x j ++ same_busy (suc i) xs j

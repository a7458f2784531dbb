-- With every fleet 0 the balk test is document 01's, and both runs go as under any other queue places.
use Rattle.std.proofs.Common.{◌≡◌, ℕ, Bool, true, false, ◌||◌, List, sym, refl, ◌∙◌}
use Rattle.charger.specs.Fleet.{fleet_full}
use Rattle.charger.specs.Vehicle.{no_vehicle}
use Rattle.charger.proofs.Lists.{all_default}
use Rattle.engine.specs.Plan.{Plan, vehicle}
use Rattle.engine.specs.SiteState.{limit_reached, balks}
use Rattle.engine.specs.Fleets.{NoFleets, AsBefore}
use Rattle.engine.proofs.site.Alike.{SameTest, alike_by_events, alike_by_steps}

or_no : (b : Bool) → (b || false) ≡ b
or_no true = refl
or_no false = refl

module _ (p : Plan) (none : NoFleets p) where
  own_limit : (places : List ℕ) (v : ℕ) (queue : List ℕ) → balks p.vehicles places v queue ≡ limit_reached p.vehicles v queue
  unfolding balks fleet_full
  own_limit places v queue =
      let no : (vehicle p v).fleet ≡ 0 = all_default p.vehicles v no_vehicle refl none in
      rw no (or_no (limit_reached p.vehicles v queue))

  same_test : (places : List ℕ) → SameTest p places
  same_test places v queue = own_limit places v queue ∙ sym (own_limit p.queue_places v queue)

  pub as_before : AsBefore p
  as_before =
      record {
        test = own_limit p.queue_places;
        events = λ places n. alike_by_events p p.limit places (same_test places) n;
        steps = λ places n. alike_by_steps p places (same_test places) n;
      }

-- In a run by events whoever stands at a charger is one of the plan's vehicles. Assumes nothing.
use Rattle.std.proofs.Common.{ℕ, zero, suc, ◌<◌, List, [], ◌∷◌, set, replicate, length}
use Rattle.charger.specs.Lists.{All, none, also}
use Rattle.charger.proofs.Lists.{all_head, all_right}
use Rattle.engine.specs.Plan.{Plan}
use Rattle.engine.specs.SiteState.{start_charging}
use Rattle.engine.specs.Discrete.{Occupant, no_car, car, State, run}
use Rattle.engine.proofs.discrete.Stepped.{Stepped, stepped, ended, charges, balks, waits, frees, passes, reneges, misses}
use Rattle.engine.proofs.discrete.EventLaws.{every_run}
use Rattle.engine.proofs.discrete.InPlan.{InPlan, in_plan}

all_set : {A : Type 0} {P : A → Type 0} (l : List A) (i : ℕ) (x : A) → P x → All P l → All P (set l i x)
all_set [] i x p h = none
all_set (y ∷ l) zero x p (also h hs) = also p hs
all_set (y ∷ l) (suc i) x p (also h hs) = also h (all_set l i x p hs)

all_replicate : {A : Type 0} {P : A → Type 0} (n : ℕ) (x : A) → P x → All P (replicate n x)
all_replicate zero x p = none
all_replicate (suc n) x p = also p (all_replicate n x p)

module _ (p : Plan) where
  abbrev pub Standing : Occupant → Type 0
  Standing no_car = Unit {0}
  Standing (car v) = v < length p.vehicles

  stays : (s : State) {t : State} → Stepped p s t → InPlan p s → All Standing s.site.places → All Standing t.site.places
  unfolding start_charging
  stays s (ended l) k h = h
  stays s (charges e es c l x a) k h = all_set s.site.places c (car e.vehicle) (all_head (rw l at k.pending)).0 h
  stays s (balks e es l x) k h = h
  stays s (waits e es l x) k h = h
  stays s (frees e es l x) k h = all_set s.site.places e.charger no_car tt h
  stays s (passes e es q v r l x y a) k h = all_set _ e.charger (car v) (all_head (all_right q (rw y at k.queue))) (all_set s.site.places e.charger no_car tt h)
  stays s (reneges e es q v r l x y a) k h = h
  stays s (misses e es l x a) k h = h

  pub standing : (n : ℕ) → All Standing (run p n).site.places
  standing = every_run p (λ s. All Standing s.site.places) (all_replicate (length p.chargers) no_car tt) (λ n h. stays (run p n) (stepped p (run p n)) (in_plan p n) h)

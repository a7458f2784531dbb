-- In a run by events whoever is pending or queued is one of the plan's vehicles, and each charger's place is there.
use Rattle.std.proofs.Common.{◌≡◌, ℕ, ◌<◌, ◌≤◌, List, [], ◌∷◌, ◌++◌, length, arith, length-set}
use lib.ListN.{length-replicate}
use Rattle.charger.specs.Lists.{All, none, also}
use Rattle.charger.proofs.Lists.{all_append, all_head, all_tail, all_right, all_around}
use Rattle.engine.specs.declared.events.Event.{Event}
use Rattle.engine.specs.Plan.{Plan}
use Rattle.engine.specs.Events.{unplug, push}
use Rattle.engine.specs.SiteState.{start_charging}
use Rattle.engine.specs.Discrete.{no_car, State, run}
use Rattle.engine.proofs.events.Order.{all_push}
use Rattle.engine.proofs.events.Generated.{all_generate}
use Rattle.engine.proofs.discrete.Stepped.{Stepped, stepped, ended, charges, balks, waits, frees, passes, reneges, misses}
use Rattle.engine.proofs.discrete.EventLaws.{every_run}
use Rattle.engine.proofs.discrete.Busy.{taken_past, available_flag}

module _ (p : Plan) where
  -- an event of one of the plan's vehicles, at one of its chargers; an event that is no unplug has charger 0
  abbrev pub OfPlan : Event → Type 0
  OfPlan e = (e.vehicle < length p.vehicles) × (e.charger ≤ length p.chargers)

  pub record InPlan (s : State) : Type 0 where
    pub pending : All OfPlan s.site.pending
    pub queue : All (λ v. v < length p.vehicles) s.site.queue
    pub places : length s.site.places ≡ length p.chargers

  module _ (s : State) (h : InPlan s) (e : Event) (es : List Event) (l : s.site.pending ≡ e ∷ es) where
    first_of : OfPlan e
    first_of = all_head (rw l at h.pending)

    behind : All OfPlan es
    behind = all_tail (rw l at h.pending)

    plugs_in : (t v c : ℕ) → v < length p.vehicles → c ≤ length p.chargers → All OfPlan (push (unplug t v c) es)
    plugs_in t v c a b = all_push _ (a, b) behind

    -- the queue without one of its vehicles
    without : (q : List ℕ) (v : ℕ) (r : List ℕ) → s.site.queue ≡ q ++ (v ∷ r) → (v < length p.vehicles) × All (λ w. w < length p.vehicles) (q ++ r)
    without q v r x =
        let all = rw x at h.queue in
        (all_head (all_right q all), all_around q v r all)

  stays : (s : State) {t : State} → Stepped p s t → InPlan s → InPlan t
  unfolding start_charging
  stays s (ended l) h = h
  stays s (charges e es c l k a) h =
      let there = taken_past s.site.places c (available_flag p s.site e.vehicle c a) in
      record {
        pending = plugs_in s h e es l _ _ c (first_of s h e es l).0 (omega (arith, there, h.places));
        queue = h.queue;
        places = simp length-set h.places;
      }
  stays s (balks e es l k) h = record { pending = behind s h e es l; queue = h.queue; places = h.places }
  stays s (waits e es l k) h =
      record { pending = behind s h e es l; queue = all_append h.queue (also (first_of s h e es l).0 none); places = h.places }
  stays s (frees e es l k) h = record { pending = behind s h e es l; queue = h.queue; places = simp length-set h.places }
  stays s (passes e es q v r l k x a) h =
      let w = without s h e es l q v r x in
      record {
        pending = plugs_in s h e es l _ v e.charger w.0 (first_of s h e es l).1;
        queue = w.1;
        places = simp length-set h.places;
      }
  stays s (reneges e es q v r l k x a) h =
      record { pending = behind s h e es l; queue = (without s h e es l q v r x).1; places = h.places }
  stays s (misses e es l k a) h = record { pending = behind s h e es l; queue = h.queue; places = h.places }

  pub in_plan : (n : ℕ) → InPlan (run p n)
  in_plan n =
      every_run p InPlan
      (record {
        pending = all_generate (length p.vehicles) (λ t v l. (l, omega arith)) (λ t v l. (l, omega arith)) 0 p.vehicles [] (omega arith) none;
        queue = none;
        places = length-replicate (length p.chargers) no_car;
      })
      (λ m k. stays (run p m) (stepped p (run p m)) k)
      n

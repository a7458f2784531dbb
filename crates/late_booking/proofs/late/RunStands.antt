-- THE LAW OF A LATE BOOKING: what the run had done by then stands, and the car's two events are pending besides.
use mathlib.Core.Path.{◌≡◌, refl, sym, ap, ◌∙◌}
use mathlib.Core.Bool.{true}
use mathlib.Core.List.{List, [], ◌∷◌, ◌++◌}
use Prim.Native.Nat.{ℕ, zero, suc, ◌+◌, ◌≤◌, ◌<◌}
use native.Mathlib.Nat.{add-zero, zero-add}
use native.Mathlib.Numerals.{add-one}
use native.Mathlib.Omega.{arith}
use borrow.Author.Tests.{lt-ltb, ltb-true}
use lib.ListN.{length}
use Rattle.charger.specs.declared.vehicle.Vehicle.{Vehicle}
use Rattle.charger.specs.Lists.{All, none}
use Rattle.charger.proofs.Lists.{all_map, all_head}
use Rattle.engine.specs.declared.events.Event.{Event}
use Rattle.engine.specs.Plan.{Plan, stay}
use Rattle.engine.specs.Events.{arrival, renege, unplug, push, Ordered, least, generate}
use Rattle.engine.specs.SiteState.{start_charging, with_pending}
use Rattle.engine.specs.Discrete.{State, pop_first, step, start, run}
use Rattle.engine.proofs.events.Before.{not_later}
use Rattle.engine.proofs.events.Order.{all_push}
use Rattle.engine.proofs.discrete.Stepped.{Stepped, stepped, ended, charges, balks, waits, frees, passes, reneges, misses}
use Rattle.engine.proofs.discrete.EventLaws.{step-ended, run_step, used, Used}
use Rattle.engine.proofs.discrete.InOrder.{ordered}
use Rattle.engine.proofs.discrete.InPlan.{in_plan}
use Rattle.late_booking.specs.LateCar.{first_time, is_later, with_vehicle, joined, with_car}
use Rattle.late_booking.proofs.late.Pushes.{push_later}
use Rattle.late_booking.proofs.late.SameRules.{same_handled}

module _ (p : Plan) where
  run_suc : (n : ℕ) → run p (suc n) ≡ step p (run p n)
  run_suc n = ap (run p) (sym (add-one n)) ∙ run_step p n

  -- ---- the events that a run has handled: each stood first, and their times never fall

  record Popped (n : ℕ) : Type 0 where
    event : Event
    others : List Event
    pending : (run p n).site.pending ≡ event ∷ others
    counted : (run p n).handled ≡ n

  popped : (n : ℕ) → (run p (suc n)).handled ≡ suc n → Popped n
  unfolding step Used
  popped n h = go (run p n).site.pending refl
    where
      go : (l : List Event) → (run p n).site.pending ≡ l → Popped n
      go [] e = absurd (omega (arith, h, ap (λ (s : State). s.handled) (run_suc n ∙ step-ended p (run p n) e), (used p n).0))
      go (e ∷ es) l =
          record {
            event = e;
            others = es;
            pending = l;
            counted = omega (arith, h, ap (λ (s : State). s.handled) (run_suc n ∙ ap (λ (l : List Event). pop_first p l (run p n)) l));
          }

  behind-first : {e : Event} {es : List Event} → Ordered (e ∷ es) → All (λ y. e.time ≤ y.time) es
  behind-first {e} (least b s) = all_map (λ y h. not_later e y h) b

  -- what is pending after a step is no earlier than the event that was handled
  no_earlier : (s : State) {t : State} → Ordered s.site.pending → Stepped p s t → All (λ y. first_time s.site.pending ≤ y.time) t.site.pending
  unfolding start_charging
  no_earlier s o (ended l) = rw l none
  no_earlier s o (charges e es c l k a) = rw l (all_push (unplug (e.time + stay p e.vehicle c) e.vehicle c) (omega arith) (behind-first (rw l at o)))
  no_earlier s o (balks e es l k) = rw l (behind-first (rw l at o))
  no_earlier s o (waits e es l k) = rw l (behind-first (rw l at o))
  no_earlier s o (frees e es l k) = rw l (behind-first (rw l at o))
  no_earlier s o (passes e es q v r l k x a) = rw l (all_push (unplug (e.time + stay p v e.charger) v e.charger) (omega arith) (behind-first (rw l at o)))
  no_earlier s o (reneges e es q v r l k x a) = rw l (behind-first (rw l at o))
  no_earlier s o (misses e es l k a) = rw l (behind-first (rw l at o))

  -- an arrival that lies after the last handled event lies after the one before it
  earlier : (n t : ℕ) → (run p (suc n)).handled ≡ suc n → is_later p (suc n) t ≡ true → is_later p n t ≡ true
  earlier zero t h k = refl
  earlier (suc n) t h k =
      let last = popped (suc n) h in
      let after = no_earlier (run p n) (ordered p n) (stepped p (run p n)) in
      let times = rw (← run_suc n, last.pending) at after in
      lt-ltb (first_time (run p n).site.pending) t (omega (arith, all_head times, rw last.pending at (ltb-true (first_time (run p (suc n)).site.pending) t k)))

-- ---- the run with the vehicle

module _ (p : Plan) (x : Vehicle) where
  abbrev q : Plan
  q = with_vehicle x p

  abbrev v : ℕ
  v = length p.vehicles

  -- its two events are the last ones pushed at the start
  generate_last : (i : ℕ) (xs : List Vehicle) (l : List Event) → generate i (xs ++ (x ∷ [])) l ≡ joined (i + length xs) x (generate i xs l)
  generate_last i [] l = rw add-zero
  generate_last i (y ∷ xs) l =
      let e : suc i + length xs ≡ i + suc (length xs) = omega arith in
      rw e at (generate_last (suc i) xs (push (renege (y.arrival + y.wait) i) (push (arrival y.arrival i) l)))

  same_start : start q ≡ with_car v x (start p)
  same_start =
      let e : generate 0 (p.vehicles ++ (x ∷ [])) [] ≡ joined v x (generate 0 p.vehicles []) = rw zero-add at (generate_last 0 p.vehicles []) in
      rw e

  -- an event that is earlier than the arrival is handled as without the vehicle
  same_step : (s : State) (e : Event) (es : List Event) → s.site.pending ≡ e ∷ es → e.time < x.arrival → e.vehicle < v → All (λ w. w < v) s.site.queue
      → step q (with_car v x s) ≡ with_car v x (step p s)
  unfolding step
  same_step s e es l h there queue =
      let behind : joined v x (e ∷ es) ≡ e ∷ joined v x es =
      ap (push (renege (x.arrival + x.wait) v)) (push_later e (arrival x.arrival v) es h) ∙ push_later e (renege (x.arrival + x.wait) v) _ (omega arith) in
      ap (λ (l : List Event). pop_first q (joined v x l) (with_car v x s)) l
      ∙ ap (λ (l : List Event). pop_first q l (with_car v x s)) behind
      ∙ (λ i. record { site = same_handled p x e.kind e.time e.vehicle e.charger (with_pending es s.site) there queue i; handled = s.handled + 1 })
      ∙ ap (λ (l : List Event). with_car v x (pop_first p l s)) (sym l)

  -- THE LAW
  pub run_stands : (n : ℕ) → (run p n).handled ≡ n → is_later p n x.arrival ≡ true → run q n ≡ with_car v x (run p n)
  run_stands zero h k = same_start
  run_stands (suc n) h k =
      let last = popped p n h in
      let before = run_stands n last.counted (earlier p n x.arrival h k) in
      let in_time : last.event.time < x.arrival = rw last.pending at (ltb-true (first_time (run p n).site.pending) x.arrival k) in
      let all = in_plan p n in
      run_suc q n
      ∙ ap (step q) before
      ∙ same_step (run p n) last.event last.others last.pending in_time (all_head (rw last.pending at all.pending)).0 all.queue
      ∙ ap (with_car v x) (sym (run_suc p n))

-- The events of a plan, as a loop over its vehicles pushes them.
use Rattle.std.proofs.Common.{◌≡◌, ℕ, suc, ◌+◌, ◌*◌, ◌<◌, ◌≤◌, List, [], ◌∷◌, length, get_or, drop, sym, refl, ap, ◌∙◌, add-one, arith, w64, Fits}
use lib.Seq.{drop-cons}
use Rattle.charger.specs.declared.vehicle.Vehicle.{Vehicle}
use Rattle.charger.specs.Lists.{All, none}
use Rattle.engine.specs.declared.events.Event.{Event}
use Rattle.engine.specs.Events.{arrival, renege, before, push, Ordered, empty, generate}
use Rattle.engine.proofs.events.Order.{all_push, Upto, upto_arrival, upto_next}
use Rattle.charger.proofs.Lists.{by_cond, all_at}
use Rattle.engine.specs.Code.Simulation.{InTime}

-- what the loop has made once it has come to the vehicle at v: what is left to push makes the plan's events of it
pub record Made (all : List Vehicle) (v : ℕ) (l : List Event) : Type 0 where
  pub upto : Upto v l
  pub many : length l ≡ 2 * v
  pub left : generate v (drop v all) l ≡ generate 0 all []

-- nothing is made at first
pub made_start : (all : List Vehicle) {l : List Event} → l ≡ [] → Made all 0 l
made_start all e = record { upto = rw e (empty, none); many = rw e; left = rw e }

length_push : (e : Event) (l : List Event) → length (push e l) ≡ suc (length l)
length_push e [] = refl
length_push e (x ∷ xs) = by_cond (λ (m : List Event). length m ≡ suc (suc (length xs))) (before e x) refl (ap suc (length_push e xs))

-- the vehicles as the code reads them
module _ (all seen : List Vehicle) (same : (seen ≡ all) × (length seen ≤ 64)) (v : ℕ) (d : Vehicle) (inside : v < length seen) where
  abbrev x : Vehicle
  x = get_or seen v d

  pub in_time_at : All InTime all → InTime x
  in_time_at a = all_at {P = InTime} seen v d inside (rw same.0 a)

  pub until_fits : All InTime all → Fits w64 (x.arrival + x.wait)
  until_fits a = omega (arith, in_time_at a)

  module _ {l first : List Event} (m : Made all v l) (pushed : first ≡ push (arrival x.arrival v) l) where
    many_first : length first ≡ 2 * v + 1
    many_first = omega (arith, ap length pushed, length_push (arrival x.arrival v) l, m.many)

    pub room_first : length first < 192
    room_first = omega (arith, many_first, same.1)

    pub order_first : Ordered first
    order_first = rw pushed (upto_arrival v x.arrival 0 m.upto)

    pub made_next : {both : List Event} → both ≡ push (renege (x.arrival + x.wait) v) first → Made all (v + 1) both
    made_next r =
        let on : generate v (drop v all) l ≡ generate (suc v) (drop (suc v) all) (push (renege (x.arrival + x.wait) v) (push (arrival x.arrival v) l)) =
        rw (← same.0, drop-cons seen v d inside) in
        record {
          upto = rw (r, pushed, add-one v) (upto_next v x.arrival (x.arrival + x.wait) m.upto);
          many = omega (arith, ap length r, length_push (renege (x.arrival + x.wait) v) first, many_first);
          left = rw (r, pushed, add-one v) (sym on) ∙ m.left;
        }

-- ---- arrivals and reneges of vehicles below n

module _ {P : Event → Type 0} (n : ℕ) (arrivals : (t v : ℕ) → v < n → P (arrival t v)) (reneges : (t v : ℕ) → v < n → P (renege t v)) where
  pub all_generate : (v : ℕ) (xs : List Vehicle) (l : List Event) → v + length xs ≤ n → All P l → All P (generate v xs l)
  all_generate v [] l h k = k
  all_generate v (x ∷ xs) l h k =
      all_generate (suc v) xs _ (omega arith) (all_push _ (reneges (x.arrival + x.wait) v (omega arith)) (all_push _ (arrivals x.arrival v (omega arith)) k))

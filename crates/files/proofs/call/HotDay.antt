-- Request 13 of every plan that is fine: the law holds of its pairs, and the book of a run by events says what they take. Assumes nothing.
use mathlib.Core.Path.{◌≡◌, refl, sym, subst}
use mathlib.Core.Bool.{true}
use mathlib.Core.List.{List, map}
use Prim.Native.Nat.{ℕ, ◌<◌}
use native.Mathlib.Omega.{arith}
use borrow.Author.Tests.{lt-ltb}
use lib.Dec.{T}
use lib.ListN.{length}
use lib.Ieee.{Float}
use Rattle.curve.specs.F64.{within}
use Rattle.curve.specs.Curve.{curve_of, integrate_over}
use Rattle.curve.specs.declared.charge_profile.ChargingOutput.{ChargingOutput}
use Rattle.curve.specs.declared.units.Kw.{Kw}
use Rattle.curve.proofs.charge_profile.HotDay.{hot_day}
use Rattle.charger.specs.Lists.{All, none, also}
use Rattle.charger.proofs.Lists.{all_at}
use Rattle.charger.specs.Vehicle.{no_vehicle}
use Rattle.engine.specs.Plan.{Plan, vehicle, charger_at, fits, rated, output}
use Rattle.engine.specs.HotDay.{Alike, HotDay, ChargedAtRating}
use Rattle.engine.specs.declared.session.Session.{Session}
use Rattle.engine.specs.declared.session.Outcome.{Outcome}
use Rattle.engine.specs.declared.session.Outcome.TheVariants.{Open, Charged, Reneged, Balked}
use Rattle.engine.specs.Demand.{outcome_number, by_events}
use Rattle.engine.proofs.discrete.Rated.{charged_at_rating}
use Rattle.plan.specs.Places.{profile_count, charger_count, profile_block, charger_block}
use Rattle.files.specs.Read.{points_of, curve_of_profile, battery_of, charger_of, chargers_of, row_of_charger, connector_rows, vehicles_of, read_plan}
use Rattle.files.specs.BookSession.{entry, book_sessions}
use Rattle.plan.specs.Plan.{check_blocks}
use Rattle.files.specs.Check.{check_plan}
use Rattle.files.specs.HotDay.{HotDayOfPlan, ByRating}
use Rattle.files.specs.declared.book_session.BookSession.{BookSession}
use Rattle.plan.proofs.SearchLaws.{length-each}
use Rattle.files.proofs.Accepted.{profiles_named}
use Rattle.charger.specs.Leads.{ChargerWithin}
use Rattle.files.proofs.read.Within.{VehicleWithin, vehicles-within, chargers_within, battery_within, points-within}
use Rattle.files.proofs.check.PairLaws.{plan_fine, charged_in_time}
use Rattle.files.proofs.check.RatedPower.{vehicle_inside, row_inside, rated-above}
use Rattle.std.specs.Prelude.{Result, Ok, Err}
use Rattle.plan.specs.declared.answer.Refusal.{Refusal}

-- ---- the pairs of a plan
module _ (plan : List ℕ) (fine : check_plan plan ≡ Ok tt) where
  abbrev p : Plan
  p = read_plan plan

  blocks : check_blocks plan ≡ Ok tt
  blocks = (plan_fine plan fine).0

  module _ (v c : ℕ) (h : fits p v c ≡ true) where
    charger_inside : c < length p.chargers
    unfolding chargers_of connector_rows
    charger_inside =
        omega (arith, row_inside p v c h, length-each (λ (j : ℕ). charger_of (charger_block plan j)) 0 (charger_count plan), length-each (λ (j : ℕ). row_of_charger (charger_block plan j)) 0 (charger_count plan))

    its_vehicle : VehicleWithin (vehicle p v)
    its_vehicle = all_at p.vehicles v no_vehicle (vehicle_inside p v c h) (vehicles-within plan blocks)

    its_charger : ChargerWithin (charger_at p.chargers c)
    unfolding charger_at
    its_charger = all_at p.chargers c _ charger_inside (chargers_within plan blocks)

    its_profile : (vehicle p v).profile < profile_count plan
    its_profile = all_at p.vehicles v no_vehicle (vehicle_inside p v c h) (profiles_named plan blocks)

    in_time : T (within (output p v c).duration.0)
    in_time = subst T (sym (charged_in_time p (plan_fine plan fine).1 v c (vehicle_inside p v c h) charger_inside h)) tt

  -- what charging takes on the curve of a profile
  abbrev charge : ℕ → Float → Float → Kw → ChargingOutput
  charge k start target cap = integrate_over (curve_of (points_of (profile_block plan k))) (battery_of plan k) start target cap

  curve_read : (k : ℕ) → k < profile_count plan → curve_of_profile plan k ≡ curve_of (points_of (profile_block plan k))
  unfolding curve_of_profile
  curve_read k h = rw (lt-ltb k (profile_count plan) h)

  -- a vehicle like v, at a charger
  output_read : (v w c : ℕ) → Alike p v w → (vehicle p v).profile < profile_count plan → output p w c ≡ charge (vehicle p v).profile (vehicle p v).start (vehicle p v).target (rated p w c)
  unfolding output
  output_read v w c alike h = rw (← alike.profile, ← alike.start, ← alike.target, curve_read (vehicle p v).profile h)

  pub hot_day_of_plan : HotDay p
  hot_day_of_plan v w a b alike fa fb lower =
      let x = vehicle p v in
      let inside = its_profile v a fa in
      let within-limits = its_vehicle v a fa in
      let low = output_read v v a (record { profile = refl; start = refl; target = refl }) inside in
      let high = output_read v w b alike inside in
      rw (low, high)
      (hot_day (points_of (profile_block plan x.profile)) (battery_of plan x.profile) x.start x.target
      (points-within plan blocks x.profile inside) (battery_within plan blocks x.profile inside) within-limits.start within-limits.target
      (rated p v a) (rated p w b) (rated-above p v a fa (its_charger v a fa)) lower
      (rw low at (in_time v a fa)) (rw high at (in_time w b fb)))

-- of what a check answers
pub hot_day_if_fine : (plan : List ℕ) (r : Result (Unit {0}) Refusal) → r ≡ check_plan plan → HotDayOfPlan plan r
hot_day_if_fine plan (Ok u) e = hot_day_of_plan plan (sym e)
hot_day_if_fine plan (Err x) e = tt

-- ---- the book of a run by events
charged_one : (o : Outcome) → outcome_number o ≡ 1 → o ≡ Charged
charged_one Open e = absurd (omega arith)
charged_one Charged e = refl
charged_one Reneged e = absurd (omega arith)
charged_one Balked e = absurd (omega arith)

module _ (plan : List ℕ) where
  entry-rated : (x : Session) → ChargedAtRating (read_plan plan) x → (entry plan (vehicles_of plan) (connector_rows plan) x).outcome ≡ 1 → ByRating plan (entry plan (vehicles_of plan) (connector_rows plan) x)
  entry-rated x h e =
      let o : x.outcome ≡ Charged = charged_one x.outcome e in
      let r = h o in
      record {
        vehicle = x.vehicle;
        charger = x.charger;
        vehicle_id = refl;
        charger_id = rw o;
        pair = r.pair;
        duration = rw (o, r.duration);
        peak = rw (o, r.peak);
        energy = rw (o, r.energy);
      }

  all_rated : {xs : List Session} → All (ChargedAtRating (read_plan plan)) xs → All (λ y. y.outcome ≡ 1 → ByRating plan y) (map (entry plan (vehicles_of plan) (connector_rows plan)) xs)
  all_rated none = none
  all_rated (also {x = x} h hs) = also (entry-rated x h) (all_rated hs)

  pub book_by_rating : (n : ℕ) (ys : List BookSession) → ys ≡ book_sessions plan (by_events (read_plan plan) n).sessions → All (λ y. y.outcome ≡ 1 → ByRating plan y) ys
  unfolding book_sessions
  book_by_rating n ys e = rw e (all_rated (charged_at_rating (read_plan plan) n))

-- A round leaves the cars that charge as it would with nobody else at the site.
use mathlib.Core.Path.{◌≡◌, refl, sym, ap, ◌∙◌}
use mathlib.Core.Bool.{Bool, true, false, cond}
use mathlib.Core.List.{List, [], ◌∷◌, map}
use Prim.Native.Nat.{ℕ}
use native.Mathlib.Omega.{arith}
use lib.ListN.{length, length-map}
use lib.Ieee.{Float}
use Rattle.curve.specs.F64.{ratio}
use Rattle.curve.specs.declared.points.Point.{Point}
use Rattle.curve.specs.declared.units.Kw.{Kw}
use Rattle.power.specs.declared.charger_state.ChargerState.{ChargerState}
use Rattle.power.specs.declared.power.Limit.{Limit}
use Rattle.power.specs.ChargerState.{is_free, is_charging, with_cap, progress}
use Rattle.power.specs.declared.power.Limit.TheVariants.{Unlimited, AtMost, Shared}
use Rattle.power.specs.Power.{active, request, added, total, scaling, cap_of, scaled_caps, watts_asked, cap_of_share, even_caps, caps, with_caps, allocate, charge}
use Rattle.shares.specs.Shares.{shares}
use Rattle.shares.proofs.even.LeftOut.{kept, left_out}
use Rattle.power.proofs.alone.OneCar.{caps-length}
use Rattle.power.specs.Parked.{charging, charged, cap_sum, ParkedDrawNothing}

-- it charges, or it does not
by_charging : {P : Type 0} (s : ChargerState) → (is_charging s.status ≡ true → P) → (is_charging s.status ≡ false → P) → P
by_charging {P} s does rests = go (is_charging s.status) refl
  where
    go : (b : Bool) → is_charging s.status ≡ b → P
    go true h = does h
    go false h = rests h

rests : (s : ChargerState) (ss : List ChargerState) → is_charging s.status ≡ false → charging (s ∷ ss) ≡ charging ss
rests s ss h = rw h

goes_on : (s : ChargerState) (ss : List ChargerState) → is_charging s.status ≡ true → charging (s ∷ ss) ≡ s ∷ charging ss
goes_on s ss h = rw h

adds-nothing : (z : Float) (s : ChargerState) → is_charging s.status ≡ false → added z s ≡ z
unfolding added
adds-nothing z s h = rw h

abbrev marks : List ChargerState → List Bool
marks ss = map (λ s. is_charging s.status) ss

charging_those : (ss : List ChargerState) → charging ss ≡ kept (marks ss) ss
charging_those [] = refl
charging_those (s ∷ ss) = rw (charging_those ss)

module _ (curve : ℕ → List Point) where
  abbrev asked : ChargerState → ChargerState
  asked = active (request curve)

  asked_status : (s : ChargerState) → (asked s).status ≡ s.status
  unfolding request
  asked_status s = go (is_free s.status)
    where
      go : (b : Bool) → (cond b s (request curve s)).status ≡ s.status
      go true = refl
      go false = refl

  same_total : (z : Float) (ss : List ChargerState) → total z (map asked ss) ≡ total z (map asked (charging ss))
  same_total z [] = refl
  same_total z (s ∷ ss) =
      by_charging s
      (λ h. rw (goes_on s ss h) (same_total (added z (asked s)) ss))
      (λ h. rw (rests s ss h) (ap (λ x. total x (map asked ss)) (adds-nothing z (asked s) (ap is_charging (asked_status s) ∙ h)) ∙ same_total z ss))

  -- a round under the caps cs
  abbrev under : List Kw → List ChargerState → List ChargerState
  under cs ss = map progress (with_caps cs (map asked ss))

  charged-under : (cs : List Kw) (ss : List ChargerState) → length cs ≡ length ss → charged ss (under cs ss) ≡ under (kept (marks ss) cs) (charging ss)
  charged-under [] [] e = refl
  charged-under [] (s ∷ ss) e = absurd (omega arith)
  charged-under (c ∷ cs) [] e = absurd (omega arith)
  charged-under (c ∷ cs) (s ∷ ss) e =
      by_charging s
      (λ h. rw (goes_on s ss h, h) (ap (λ l. progress (active (with_cap c) (asked s)) ∷ l) (charged-under cs ss (omega arith))))
      (λ h. rw (rests s ss h, h) (charged-under cs ss (omega arith)))

  -- what a round under some caps leaves the cars that charge
  by_caps : (limit : Limit) (ss : List ChargerState) → kept (marks ss) (caps limit (map asked ss)) ≡ caps limit (map asked (charging ss))
      → charged ss (charge limit curve ss) ≡ charge limit curve (charging ss)
  unfolding allocate
  by_caps limit ss e = charged-under (caps limit (map asked ss)) ss (caps-length limit (map asked ss) ∙ length-map ss asked) ∙ ap (λ l. under l (charging ss)) e

  kept-capped : (factor : Float) (ss : List ChargerState) → kept (marks ss) (map (cap_of factor) (map asked ss)) ≡ map (cap_of factor) (map asked (charging ss))
  kept-capped factor [] = refl
  kept-capped factor (s ∷ ss) = by_charging s (λ h. rw (goes_on s ss h, h, kept-capped factor ss)) (λ h. rw (rests s ss h, h) (kept-capped factor ss))

  kept_scaled : (limit : Limit) (ss : List ChargerState) → kept (marks ss) (scaled_caps limit (map asked ss)) ≡ scaled_caps limit (map asked (charging ss))
  unfolding scaled_caps
  kept_scaled limit ss = rw (same_total (ratio 0 1) ss) (kept-capped (scaling limit (total (ratio 0 1) (map asked (charging ss)))) ss)

  no_watts : (s : ChargerState) → is_charging s.status ≡ false → watts_asked (asked s) ≡ 0
  unfolding watts_asked
  no_watts s h = rw (asked_status s, h)

  kept-shares : (limit : ℕ) (ss : List ChargerState) → kept (marks ss) (even_caps limit (map asked ss)) ≡ even_caps limit (map asked (charging ss))
  unfolding even_caps
  kept-shares limit ss =
      kept_again cap_of_share (marks ss) (shares (map watts_asked (map asked ss)) limit)
      ∙ ap (map cap_of_share)
      (ap (λ (l : List ℕ). kept (marks ss) (shares l limit)) (map_twice ss)
      ∙ left_out (λ s. is_charging s.status) (λ s. watts_asked (asked s)) no_watts limit ss
      ∙ ap (λ (l : List ChargerState). shares (map (λ s. watts_asked (asked s)) l) limit) (sym (charging_those ss))
      ∙ ap (λ (l : List ℕ). shares l limit) (sym (map_twice (charging ss))))
    where
      map_twice : (ss : List ChargerState) → map watts_asked (map asked ss) ≡ map (λ s. watts_asked (asked s)) ss
      map_twice [] = refl
      map_twice (s ∷ ss) = rw (map_twice ss)

      kept_again : (f : ℕ → Kw) (bs : List Bool) (xs : List ℕ) → kept bs (map f xs) ≡ map f (kept bs xs)
      kept_again f [] xs = refl
      kept_again f (b ∷ bs) [] = refl
      kept_again f (true ∷ bs) (x ∷ xs) = rw (kept_again f bs xs)
      kept_again f (false ∷ bs) (x ∷ xs) = kept_again f bs xs

  same_caps : (limit : Limit) (ss : List ChargerState) → kept (marks ss) (caps limit (map asked ss)) ≡ caps limit (map asked (charging ss))
  unfolding caps
  same_caps Unlimited ss = kept_scaled Unlimited ss
  same_caps (AtMost kw) ss = kept_scaled (AtMost kw) ss
  same_caps (Shared watts) ss = kept-shares watts ss

  module _ (limit : Limit) where
    by_themselves : (ss : List ChargerState) → charged ss (charge limit curve ss) ≡ charge limit curve (charging ss)
    by_themselves ss = by_caps limit ss (same_caps limit ss)

    pub parked_draw-nothing : (ss : List ChargerState) → ParkedDrawNothing limit curve ss (charge limit curve ss)
    parked_draw-nothing ss = record { cars = by_themselves ss; sum = ap (cap_sum (ratio 0 1)) (by_themselves ss) }

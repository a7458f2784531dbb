-- Laws of free chargers: a round leaves them as they are.
use mathlib.Core.Path.{◌≡◌, refl}
use mathlib.Core.Bool.{Bool, true, false, ◌&&◌}
use mathlib.Core.List.{List, [], ◌∷◌, map}
use Prim.Native.Nat.{ℕ}
use lib.Ieee.{Float}
use Rattle.curve.specs.declared.points.Point.{Point}
use Rattle.curve.specs.declared.units.Kw.{Kw}
use Rattle.power.specs.declared.charger_state.Status.{Status}
use Rattle.power.specs.declared.charger_state.Status.TheVariants.{Free, Charging, Idle, Finished}
use Rattle.power.specs.declared.charger_state.ChargerState.{ChargerState}
use Rattle.power.specs.declared.power.Limit.{Limit}
use Rattle.power.specs.ChargerState.{is_free, is_finished, progress_by, progress, all_free}
use Rattle.power.specs.Power.{active, request, added_by, caps, with_caps, allocate, charge}

pub free_stays : (status : Status) (s : ChargerState) → is_free status ≡ true → progress_by status s ≡ s
free_stays Free s h = refl
free_stays Charging s h = cc
free_stays Idle s h = cc
free_stays Finished s h = refl

pub free_unfinished : (status : Status) → is_free status ≡ true → is_finished status ≡ false
free_unfinished Free h = refl
free_unfinished Charging h = refl
free_unfinished Idle h = refl
free_unfinished Finished h = cc

pub free_adds : (sum drawn : Float) (status : Status) → is_free status ≡ true → added_by sum status drawn ≡ sum
free_adds sum drawn Free h = refl
free_adds sum drawn Charging h = cc
free_adds sum drawn Idle h = refl
free_adds sum drawn Finished h = refl

pub and_left : (a b : Bool) → (a && b) ≡ true → a ≡ true
and_left true b h = refl
and_left false b h = h

pub and_right : (a b : Bool) → (a && b) ≡ true → b ≡ true
and_right true b h = h
and_right false b h = cc

pub free_map : (change : ChargerState → ChargerState) → ((s : ChargerState) → is_free s.status ≡ true → change s ≡ s)
    → (ss : List ChargerState) → all_free ss ≡ true → map change ss ≡ ss
free_map change same [] h = refl
free_map change same (s ∷ ss) h =
    rw (same s (and_left (is_free s.status) (all_free ss) h), free_map change same ss (and_right (is_free s.status) (all_free ss) h))

free_active : (change : ChargerState → ChargerState) (ss : List ChargerState) → all_free ss ≡ true → map (active change) ss ≡ ss
free_active change ss h = free_map (active change) (λ s e. rw e) ss h

pub free_capped : (cs : List Kw) (ss : List ChargerState) → all_free ss ≡ true → with_caps cs ss ≡ ss
free_capped [] ss h = refl
free_capped (c ∷ cs) [] h = refl
free_capped (c ∷ cs) (s ∷ ss) h = rw (and_left (is_free s.status) (all_free ss) h, free_capped cs ss (and_right (is_free s.status) (all_free ss) h))

pub free_progress : (ss : List ChargerState) → all_free ss ≡ true → map progress ss ≡ ss
free_progress = free_map progress (λ s e. free_stays s.status s e)

pub free_charge : (limit : Limit) (curve : ℕ → List Point) (ss : List ChargerState) → all_free ss ≡ true → charge limit curve ss ≡ ss
unfolding allocate
free_charge limit curve ss h = rw (free_active (request curve) ss h, free_capped (caps limit ss) ss h) (free_progress ss h)

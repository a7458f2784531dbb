-- Power and progress leave each car, and its session, where they are.
use mathlib.Core.Path.{◌≡◌, refl, ap, ◌∙◌}
use mathlib.Core.Bool.{Bool, true, false, cond}
use mathlib.Core.List.{List, [], ◌∷◌, map}
use Prim.Native.Nat.{ℕ, zero, suc}
use lib.ListN.{length, get_or}
use lib.Ieee.{le}
use Rattle.curve.specs.F64.{ratio}
use Rattle.curve.specs.declared.points.Point.{Point}
use Rattle.curve.specs.declared.units.Kw.{Kw}
use Rattle.power.specs.declared.charger_state.Status.{Status}
use Rattle.power.specs.declared.charger_state.Status.TheVariants.{Free, Charging, Idle, Finished}
use Rattle.power.specs.declared.charger_state.ChargerState.{ChargerState}
use Rattle.power.specs.declared.power.Limit.{Limit}
use Rattle.power.specs.ChargerState.{is_free, empty, with_cap, after_charging, after_idling, progress_by, progress, all_free}
use Rattle.power.specs.Power.{active, request, caps, with_caps, allocate, charge}

-- both states have the same car, with the same session, or none
pub record SameCar (s s' : ChargerState) : Type 0 where
  pub free : is_free s'.status ≡ is_free s.status
  pub vehicle : s'.vehicle ≡ s.vehicle
  pub session : s'.session ≡ s.session

-- and so at every place
pub data SameCars : List ChargerState → List ChargerState → Type 0 where
  none : SameCars [] []
  also : {s s' : ChargerState} {ss ss' : List ChargerState} → SameCar s s' → SameCars ss ss' → SameCars (s ∷ ss) (s' ∷ ss')

-- ---- what follows

pub same_free : {ss ss' : List ChargerState} → SameCars ss ss' → (c : ℕ) → is_free (get_or ss' c empty).status ≡ is_free (get_or ss c empty).status
same_free none c = refl
same_free (also s r) zero = s.free
same_free (also s r) (suc c) = same_free r c

pub same_vehicle : {ss ss' : List ChargerState} → SameCars ss ss' → (c : ℕ) → (get_or ss' c empty).vehicle ≡ (get_or ss c empty).vehicle
same_vehicle none c = refl
same_vehicle (also s r) zero = s.vehicle
same_vehicle (also s r) (suc c) = same_vehicle r c

pub same_session : {ss ss' : List ChargerState} → SameCars ss ss' → (c : ℕ) → (get_or ss' c empty).session ≡ (get_or ss c empty).session
same_session none c = refl
same_session (also s r) zero = s.session
same_session (also s r) (suc c) = same_session r c

pub same_size : {ss ss' : List ChargerState} → SameCars ss ss' → length ss' ≡ length ss
same_size none = refl
same_size (also s r) = ap suc (same_size r)

pub same_all_free : {ss ss' : List ChargerState} → SameCars ss ss' → all_free ss' ≡ all_free ss
same_all_free none = refl
same_all_free (also s r) = rw (s.free, same_all_free r)

-- ---- a round

same_trans : {ss ss' ss'' : List ChargerState} → SameCars ss ss' → SameCars ss' ss'' → SameCars ss ss''
same_trans none none = none
same_trans (also s r) (also s' r') = also (record { free = s'.free ∙ s.free; vehicle = s'.vehicle ∙ s.vehicle; session = s'.session ∙ s.session }) (same_trans r r')

same_map : {change : ChargerState → ChargerState} → ((s : ChargerState) → SameCar s (change s)) → (ss : List ChargerState) → SameCars ss (map change ss)
same_map a [] = none
same_map a (s ∷ ss) = also (a s) (same_map a ss)

same_active : {change : ChargerState → ChargerState} → ((s : ChargerState) → SameCar s (change s)) → (s : ChargerState) → SameCar s (active change s)
same_active {change} a s = go (is_free s.status)
  where
    go : (b : Bool) → SameCar s (cond b s (change s))
    go true = record { free = refl; vehicle = refl; session = refl }
    go false = a s

pub same_requested : (curve : ℕ → List Point) (ss : List ChargerState) → SameCars ss (map (active (request curve)) ss)
unfolding request
same_requested curve ss = same_map (same_active (λ s. record { free = refl; vehicle = refl; session = refl })) ss

-- whatever the caps are
same_capped : (cs : List Kw) (ss : List ChargerState) → SameCars ss (with_caps cs ss)
same_capped [] [] = none
same_capped [] (s ∷ ss) = also (record { free = refl; vehicle = refl; session = refl }) (same_capped [] ss)
same_capped (c ∷ cs) [] = none
same_capped (c ∷ cs) (s ∷ ss) = also (same_active {change = with_cap c} (λ s. record { free = refl; vehicle = refl; session = refl }) s) (same_capped cs ss)

pub same_progress : (s : ChargerState) → SameCar s (progress s)
unfolding after_charging after_idling
same_progress s = record { free = free_by s.status s refl; vehicle = vehicle_by s.status; session = session_by s.status }
  where
    until : (b : Bool) (x y : Status) → is_free x ≡ false → is_free y ≡ false → is_free (cond b x y) ≡ false
    until true x y h k = h
    until false x y h k = k

    free_by : (status : Status) (s : ChargerState) → s.status ≡ status → is_free (progress_by status s).status ≡ is_free status
    free_by Free s e = rw e
    free_by Charging s e = until (le s.target (after_charging s).soc) Idle Charging refl refl
    free_by Idle s e = until (le (after_idling s).idle.0 (ratio 0 1)) Finished Idle refl refl
    free_by Finished s e = rw e

    vehicle_by : (status : Status) → (progress_by status s).vehicle ≡ s.vehicle
    vehicle_by Free = refl
    vehicle_by Charging = refl
    vehicle_by Idle = refl
    vehicle_by Finished = refl

    session_by : (status : Status) → (progress_by status s).session ≡ s.session
    session_by Free = refl
    session_by Charging = refl
    session_by Idle = refl
    session_by Finished = refl

pub same_charged : (limit : Limit) (curve : ℕ → List Point) (ss : List ChargerState) → SameCars ss (charge limit curve ss)
unfolding allocate
same_charged limit curve ss =
    let asked = map (active (request curve)) ss in
    same_trans (same_requested curve ss) (same_trans (same_capped (caps limit asked) asked) (same_map same_progress (with_caps (caps limit asked) asked)))

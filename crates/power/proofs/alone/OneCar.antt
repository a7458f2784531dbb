-- One car among free chargers: its round is the round of all of them.
use mathlib.Core.Path.{◌≡◌, refl, sym, ap, ◌∙◌}
use mathlib.Core.Logic.{inl, inr}
use mathlib.Core.Bool.{Bool, true, false, true≢false, not, cond, ◌&&◌}
use mathlib.Core.List.{List, [], ◌∷◌, ◌++◌, map, map-append}
use Prim.Native.Nat.{ℕ, zero, suc, ◌+◌, ◌-◌, ◌<◌}
use native.Mathlib.Omega.{arith}
use lib.ListN.{length, get_or, set, length-append, length-map, get_or-map}
use lib.Seq.{set_at, get_or-append_seam}
use lib.Ieee.{Float, lt, le, ne}
use Rattle.curve.specs.F64.{◌⊕◌, ◌⊖◌, ◌⊗◌, ratio, least}
use Rattle.curve.specs.Curve.{power_at}
use Rattle.curve.specs.declared.points.Point.{Point}
use Rattle.curve.specs.declared.units.Kw.{Kw}
use Rattle.power.specs.declared.charger_state.Status.{Status}
use Rattle.power.specs.declared.charger_state.Status.TheVariants.{Free, Charging, Idle, Finished}
use Rattle.power.specs.declared.charger_state.ChargerState.{ChargerState}
use Rattle.power.specs.declared.power.Limit.{Limit}
use Rattle.power.specs.declared.power.Limit.TheVariants.{Unlimited, AtMost, Shared}
use Rattle.power.specs.declared.power.Spun as D
use Rattle.power.specs.ChargerState.{is_free, is_finished, is_charging, with_request, with_cap, draw, delivered, after_charging, after_idling, progress_by, progress, all_free}
use Rattle.power.specs.Power.{active, request, added, total, scaling, cap_of, scaled_caps, watts_asked, cap_of_share, even_caps, caps, with_caps, allocate, charge}
use Rattle.power.specs.Code.Rounds.{or_finished, any_finished, Spun, spin}
use Rattle.power.specs.Code.Alone.{by_factor, scaled_alone, share_alone, cap_alone, round_alone, CapMatchesRequest}
use Rattle.power.specs.Code.Bank.{Gaps, Cars, spun}
use Rattle.shares.specs.Shares.{shares}
use Rattle.shares.proofs.even.Laws.{same_count}
use Rattle.power.proofs.even_shares.AmongFree.{only_share}
use Rattle.power.proofs.charger_state.Vacant.{and_left, and_right, free_stays, free_map, free_capped}
use Rattle.power.proofs.power.SameCars.{same_progress}
use Rattle.power.proofs.power.Free.{total-append, total_free, any_append, any_free, all_free-append, spin_none}
use Rattle.power.proofs.power.Passes.{still_active}
use Rattle.power.proofs.power.SpinRounds.{spin-finished, spin_more}
use Rattle.power.proofs.power.Gaps.{vacant_all}

-- ---- the cap of the one car: free chargers add nothing to the sum

map_at : (f : ChargerState → Kw) (none : Kw) (before behind : List ChargerState) (s : ChargerState) → get_or (map f (before ++ (s ∷ behind))) (length before) none ≡ f s
map_at f none [] behind s = refl
map_at f none (x ∷ before) behind s = map_at f none before behind s

pub caps-length : (limit : Limit) (ss : List ChargerState) → length (caps limit ss) ≡ length ss
unfolding caps scaled_caps even_caps
caps-length Unlimited ss = length-map ss _
caps-length (AtMost kw) ss = length-map ss _
caps-length (Shared watts) ss = length-map (shares (map watts_asked ss) watts) cap_of_share ∙ same_count (map watts_asked ss) watts ∙ length-map ss watts_asked

module _ (before behind : List ChargerState) (free-before : all_free before ≡ true) (free-behind : all_free behind ≡ true) (s : ChargerState) where
  abbrev all : List ChargerState
  all = before ++ (s ∷ behind)

  scaled_alone_lem : (limit : Limit) → get_or (scaled_caps limit all) (length before) (cap_of_share 0) ≡ scaled_alone limit s
  unfolding scaled_caps scaled_alone added
  scaled_alone_lem limit =
      let sum : total (ratio 0 1) all ≡ added (ratio 0 1) s =
      rw (total-append (ratio 0 1) before (s ∷ behind), total_free (ratio 0 1) before free-before) (total_free (added (ratio 0 1) s) behind free-behind)
      in
      rw sum (map_at (cap_of (scaling limit (added (ratio 0 1) s))) (cap_of_share 0) before behind s)

  share_alone_lem : (watts : ℕ) → is_free s.status ≡ false → get_or (even_caps watts all) (length before) (cap_of_share 0) ≡ share_alone watts s
  unfolding even_caps share_alone
  share_alone_lem watts h =
      get_or-map cap_of_share (shares (map watts_asked all) watts) (length before) 0
      ∙ ap cap_of_share (only_share before behind free-before free-behind s h watts)

  pub caps_alone : (limit : Limit) → is_free s.status ≡ false → get_or (caps limit all) (length before) (cap_of_share 0) ≡ cap_alone limit s
  unfolding caps cap_alone
  caps_alone Unlimited h = scaled_alone_lem Unlimited
  caps_alone (AtMost kw) h = scaled_alone_lem (AtMost kw)
  caps_alone (Shared watts) h = share_alone_lem watts h

-- ---- its round

with_caps_alone : (cs : List Kw) (none : Kw) (before behind : List ChargerState) → all_free before ≡ true → all_free behind ≡ true → (s : ChargerState) → is_free s.status ≡ false
    → length cs ≡ length (before ++ (s ∷ behind)) → with_caps cs (before ++ (s ∷ behind)) ≡ before ++ (with_cap (get_or cs (length before) none) s ∷ behind)
with_caps_alone [] none before behind f g s h e = absurd (omega (arith, simp length-append at e))
with_caps_alone (c ∷ cs) none [] behind f g s h e = rw (h, free_capped cs behind g)
with_caps_alone (c ∷ cs) none (x ∷ before) behind f g s h e =
    rw (and_left (is_free x.status) (all_free before) f, with_caps_alone cs none before behind (and_right (is_free x.status) (all_free before) f) g s h (omega arith))

pub stays_busy : (limit : Limit) (power : Kw) (s : ChargerState) → is_free s.status ≡ false → is_free (round_alone limit power s).status ≡ false
stays_busy limit power s h = (same_progress (with_cap (cap_alone limit (with_request power s)) (with_request power s))).free ∙ h

module _ (limit : Limit) (curve : ℕ → List Point) where
  abbrev alone : ChargerState → ChargerState
  alone s = round_alone limit (power_at (curve s.profile) s.soc) s

  module _ (before behind : List ChargerState) (free-before : all_free before ≡ true) (free-behind : all_free behind ≡ true) where
    map_among : (change : ChargerState → ChargerState) → ((s : ChargerState) → is_free s.status ≡ true → change s ≡ s) → (s t : ChargerState) → change s ≡ t
        → map change (before ++ (s ∷ behind)) ≡ before ++ (t ∷ behind)
    map_among change still s t e = rw (map-append, free_map change still before free-before, free_map change still behind free-behind, e)

    charge_among : (s : ChargerState) → is_free s.status ≡ false → charge limit curve (before ++ (s ∷ behind)) ≡ before ++ (alone s ∷ behind)
    unfolding request allocate
    charge_among s h =
        let asked = request curve s in
        let all = before ++ (asked ∷ behind) in
        let requested : map (active (request curve)) (before ++ (s ∷ behind)) ≡ all = map_among (active (request curve)) (still_active (request curve)) s asked (rw h) in
        let capped : with_caps (caps limit all) all ≡ before ++ (with_cap (cap_alone limit asked) asked ∷ behind) =
        with_caps_alone (caps limit all) (cap_of_share 0) before behind free-before free-behind asked h (caps-length limit all)
        ∙ rw (caps_alone before behind free-before free-behind asked limit h)
        in
        rw (requested, capped) (map_among progress (λ x e. free_stays x.status x e) _ _ refl)

  -- over the one car
  pub charge_one : (s : ChargerState) → is_free s.status ≡ false → charge limit curve (s ∷ []) ≡ alone s ∷ []
  charge_one s h = charge_among [] [] refl refl s h

  module _ (before behind : List ChargerState) (free-before : all_free before ≡ true) (free-behind : all_free behind ≡ true) where
    any_among : (s : ChargerState) → any_finished false (before ++ (s ∷ behind)) ≡ or_finished false s
    any_among s = rw (any_append false before (s ∷ behind), any_free false before free-before) (any_free (or_finished false s) behind free-behind)

    abbrev among : Spun → Spun
    among p = record { states = before ++ (p.states ++ behind); rounds = p.rounds; any = p.any }

    pub spin_among : (done k : ℕ) (s : ChargerState) → is_free s.status ≡ false
        → spin limit curve done k (before ++ (s ∷ behind)) ≡ among (spin limit curve done k (s ∷ []))
    spin_among done zero s h = refl
    spin_among done (suc k) s h =
        rw (charge_among before behind free-before free-behind s h, any_among (alone s), charge_one s h)
        (go (is_finished (alone s).status) _ (spin limit curve (done + 1) k (alone s ∷ [])) (spin_among (done + 1) k (alone s) (stays_busy limit _ s h)))
      where
        go : (b : Bool) (more more' : Spun) → more ≡ among more'
            → cond (cond b true false) (record { states = before ++ (alone s ∷ behind); rounds = done + 1; any = true }) more
            ≡ among (cond (cond b true false) (record { states = alone s ∷ []; rounds = done + 1; any = true }) more')
        go true more more' e = refl
        go false more more' e = e

-- ---- one round of the one car at a time

module _ (limit : Limit) (curve : ℕ → List Point) (k count : ℕ) (s t : ChargerState) (busy : is_free s.status ≡ false)
    (moved : t ≡ round_alone limit (power_at (curve s.profile) s.soc) s) (h : k < count) where
  one_charged : charge limit curve (s ∷ []) ≡ t ∷ []
  one_charged = charge_one limit curve s busy ∙ ap (λ (x : ChargerState). x ∷ []) (sym moved)

  pub one_finished : is_finished t.status ≡ true → spin limit curve k (count - k) (s ∷ []) ≡ record { states = t ∷ []; rounds = k + 1; any = true }
  one_finished f = spin-finished limit curve k count (s ∷ []) h (rw (one_charged, f)) ∙ rw one_charged

  pub one_more : is_finished t.status ≡ false → spin limit curve k (count - k) (s ∷ []) ≡ spin limit curve (k + 1) (count - (k + 1)) (t ∷ [])
  one_more f = spin_more limit curve k count (s ∷ []) h (rw (one_charged, f)) ∙ rw one_charged

-- ---- the bank, with the one car at the place i

-- the charger at the place i, among free ones; the place of the first is `from`
record Split (from i : ℕ) (ss : List ChargerState) : Type 0 where
  before : List ChargerState
  here : ChargerState
  behind : List ChargerState
  same : ss ≡ before ++ (here ∷ behind)
  place : from + length before ≡ i
  free-before : all_free before ≡ true
  free-behind : all_free behind ≡ true

split : (from i : ℕ) (ss : List ChargerState) → Gaps from ss (i ∷ []) → Split from i ss
split from i [] g = cc
split from i (s ∷ ss) (inl w) =
    let p = split (from + 1) i ss w.1 in
    record {
      before = s ∷ p.before;
      here = p.here;
      behind = p.behind;
      same = ap (λ (l : List ChargerState). s ∷ l) p.same;
      place = omega (arith, p.place);
      free-before = rw (w.0, p.free-before);
      free-behind = p.free-behind;
    }
split from i (s ∷ ss) (inr w) =
    let place : i ≡ from = cc in
    let none : w.0 ≡ [] = cc in
    record { before = []; here = s; behind = ss; same = refl; place = omega arith; free-before = refl; free-behind = vacant_all (from + 1) ss (rw none at w.2) }

module _ (limit : Limit) (curve : ℕ → List Point) (count i : ℕ) (ss : List ChargerState) (cars : Cars ss (i ∷ [])) where
  abbrev bank_split : Split 0 i ss
  bank_split = split 0 i ss cars.gaps

  at_place : (d : ChargerState) → get_or ss i d ≡ bank_split.here
  at_place d =
      let p = bank_split in
      let place : length p.before ≡ i = omega (arith, p.place) in
      ap (λ (l : List ChargerState). get_or l i d) p.same ∙ (rw place at (get_or-append_seam p.before p.here p.behind d))

  -- the car's rounds are those of the bank
  pub rounds_alone : (d t : ChargerState) (r : D.Spun) → is_free (get_or ss i d).status ≡ false
      → spun (t ∷ []) r ≡ spin limit curve 0 count (get_or ss i d ∷ []) → spun (set ss i t) r ≡ spin limit curve 0 count ss
  rounds_alone d t r busy e =
      let p = bank_split in
      let place : length p.before ≡ i = omega (arith, p.place) in
      let after : set ss i t ≡ p.before ++ (t ∷ p.behind) = ap (λ (l : List ChargerState). set l i t) p.same ∙ set_at p.before p.here p.behind t i place in
      let among-all = among limit curve p.before p.behind p.free-before p.free-behind in
      let here : is_free p.here.status ≡ false = sym (ap (λ (s : ChargerState). is_free s.status) (at_place d)) ∙ busy in
      ap (λ (l : List ChargerState). spun l r) after
      ∙ ap among-all (e ∙ ap (λ (s : ChargerState). spin limit curve 0 count (s ∷ [])) (at_place d))
      ∙ sym (spin_among limit curve p.before p.behind p.free-before p.free-behind 0 count p.here here)
      ∙ sym (ap (λ (l : List ChargerState). spin limit curve 0 count l) p.same)

  -- with no car there either, the rounds pass at once
  pub rounds_free : (d : ChargerState) → is_free (get_or ss i d).status ≡ true → record { states = ss; rounds = count; any = false } ≡ spin limit curve 0 count ss
  rounds_free d h =
      let p = bank_split in
      let here : is_free p.here.status ≡ true = sym (ap (λ (s : ChargerState). is_free s.status) (at_place d)) ∙ h in
      let free : all_free (p.here ∷ p.behind) ≡ true = rw (here, p.free-behind) in
      sym (spin_none limit curve count ss (ap all_free p.same ∙ rw (all_free-append p.before (p.here ∷ p.behind), p.free-before) free))

-- ---- a round of a charging car, where it is known what it draws

progress-charging : (status : Status) (s : ChargerState) → is_charging status ≡ true → progress_by status s ≡ after_charging s
progress-charging Free s h = cc
progress-charging Charging s h = refl
progress-charging Idle s h = cc
progress-charging Finished s h = cc

pub least_first : (a b : Float) → (not (ne a a) && not (lt b a)) ≡ true → least a b ≡ a
least_first a b h = go (ne a a) (lt b a) h
  where
    go : (x y : Bool) → (not x && not y) ≡ true → cond x b (cond y b a) ≡ a
    go true y h = cc
    go false true h = cc
    go false false h = refl

pub least_second : (a b : Float) → lt b a ≡ true → least a b ≡ b
least_second a b h = rw h (go (ne a a))
  where
    go : (x : Bool) → cond x b b ≡ b
    go true = refl
    go false = refl

-- its cap, where one factor gives it
pub alone_scaled : (limit : Limit) (s : ChargerState) → by_factor limit ≡ true → cap_alone limit s ≡ scaled_alone limit s
unfolding cap_alone
alone_scaled Unlimited s h = refl
alone_scaled (AtMost kw) s h = refl
alone_scaled (Shared watts) s h = cc

-- and where it is known what it draws
abbrev factor : Limit → Float → Float
factor limit drawn = scaling limit (ratio 0 1 ⊕ drawn)

module _ (limit : Limit) (s : ChargerState) (charging : is_charging s.status ≡ true) where
  cap_charging : scaled_alone limit s ≡ cap_of (factor limit (draw s)) s
  unfolding scaled_alone added
  cap_charging = rw charging

  module _ (drawn : Float) (draws : draw s ≡ drawn) where
    cap_scaled : lt (factor limit drawn) (ratio 1 1) ≡ true → scaled_alone limit s ≡ record { 0 = drawn ⊗ factor limit drawn }
    unfolding cap_of
    cap_scaled f = cap_charging ∙ rw (draws, f)

    cap_rated : lt (factor limit drawn) (ratio 1 1) ≡ false → scaled_alone limit s ≡ s.rated
    unfolding cap_of
    cap_rated f = cap_charging ∙ rw (draws, f)

module _ (limit : Limit) (power : Kw) (s : ChargerState) (factored : by_factor limit ≡ true) (charging : is_charging s.status ≡ true) where
  abbrev asked : ChargerState
  asked = with_request power s

  round_by : (cap : Kw) (drawn : Float) → scaled_alone limit asked ≡ cap → least power.0 cap.0 ≡ drawn → delivered drawn (with_cap cap asked) ≡ round_alone limit power s
  unfolding after_charging
  round_by cap drawn e d = sym (rw (alone_scaled limit asked factored, e) (progress-charging s.status (with_cap cap asked) charging ∙ rw d))

  module _ (drawn : Float) (draws : draw asked ≡ drawn) where
    abbrev scaled : Float
    scaled = drawn ⊗ factor limit drawn

    pub scaled_round_lem : lt (factor limit drawn) (ratio 1 1) ≡ true → lt scaled power.0 ≡ true
        → delivered scaled (with_cap (record { 0 = scaled }) asked) ≡ round_alone limit power s
    scaled_round_lem f l = round_by (record { 0 = scaled }) scaled (cap_scaled limit asked charging drawn draws f) (least_second power.0 scaled l)

    pub plain_round : lt (factor limit drawn) (ratio 1 1) ≡ false → delivered drawn (with_cap s.rated asked) ≡ round_alone limit power s
    plain_round f = round_by s.rated drawn (cap_rated limit asked charging drawn draws f) draws

-- ---- rounds after the first

-- who stood idle does not charge
still_parked : (b : Bool) {P : Type 0} → is_charging (cond b Finished Idle) ≡ true → P
still_parked true h = absurd (true≢false (sym h))
still_parked false h = absurd (true≢false (sym h))

same_scaled : (limit : Limit) (s t : ChargerState) → is_charging s.status ≡ true → is_charging t.status ≡ true → draw t ≡ draw s → t.rated ≡ s.rated
    → scaled_alone limit s ≡ scaled_alone limit t
unfolding cap_of
same_scaled limit s t a b d r = cap_charging limit s a ∙ (rw (← d, ← r)) ∙ sym (cap_charging limit t b)

same_share : (watts : ℕ) (s t : ChargerState) → is_charging s.status ≡ true → is_charging t.status ≡ true → draw t ≡ draw s → share_alone watts s ≡ share_alone watts t
unfolding share_alone watts_asked
same_share watts s t a b d = rw (a, b, d)

-- the cap goes by what the car draws, if it charges, and by the rated power
cap_drawn : (limit : Limit) (s t : ChargerState) → is_charging s.status ≡ true → is_charging t.status ≡ true → draw t ≡ draw s → t.rated ≡ s.rated
    → cap_alone limit s ≡ cap_alone limit t
unfolding cap_alone
cap_drawn Unlimited s t a b d r = same_scaled Unlimited s t a b d r
cap_drawn (AtMost kw) s t a b d r = same_scaled (AtMost kw) s t a b d r
cap_drawn (Shared watts) s t a b d r = same_share watts s t a b d

-- and not by the cap before
cap_anew : (limit : Limit) (c : Kw) (s : ChargerState) → cap_alone limit (with_cap c s) ≡ cap_alone limit s
unfolding cap_alone scaled_alone share_alone added cap_of watts_asked
cap_anew Unlimited c s = refl
cap_anew (AtMost kw) c s = refl
cap_anew (Shared watts) c s = refl

-- a round leaves the cap that its request leads to, if the car still charges
pub cap_matches : (limit : Limit) (power : Kw) (s : ChargerState) → CapMatchesRequest limit (round_alone limit power s)
unfolding after_charging after_idling
cap_matches limit power s = go s.status refl
  where
    asked_for : ChargerState
    asked_for = with_request power s

    next : ChargerState
    next = with_cap (cap_alone limit asked_for) asked_for

    go : (status : Status) → s.status ≡ status → CapMatchesRequest limit (progress_by status next)
    go Free e h = sym (cap_anew limit (cap_alone limit asked_for) asked_for)
    go Charging e h = cap_drawn limit asked_for (after_charging next) (rw e) h refl refl
    go Idle e h = still_parked (le (next.idle.0 ⊖ ratio 1 1) (ratio 0 1)) h
    go Finished e h = sym (cap_anew limit (cap_alone limit asked_for) asked_for)

-- and the same request again changes neither the request nor the cap
pub same_again : (limit : Limit) (power : Kw) (s : ChargerState) → s.cap ≡ cap_alone limit s → power.0 ≡ s.requested.0 → progress s ≡ round_alone limit power s
same_again limit power s matches e =
    let asked : with_request power s ≡ s = ap (λ (x : Float). with_request (record { 0 = x }) s) e in
    sym (ap (λ (x : ChargerState). progress (with_cap (cap_alone limit x) x)) asked ∙ ap (λ (c : Kw). progress (with_cap c s)) (sym matches))

-- A pass over the places of the cars is a pass over all chargers: it leaves the free ones between them as they are.
use mathlib.Core.Path.{◌≡◌, refl, sym, ◌∙◌}
use mathlib.Core.Logic.{inl, inr}
use mathlib.Core.Bool.{Bool, true, false, cond, ◌||◌}
use mathlib.Core.List.{List, [], ◌∷◌, ◌++◌, map}
use Prim.Native.Nat.{ℕ, zero, suc, ◌+◌, ◌<◌}
use native.Mathlib.Numerals.{add-one}
use native.Mathlib.Omega.{arith}
use lib.ListN.{length, get_or, set, drop, length-append, length-set}
use lib.Seq.{set_at, get_or-append_seam, append_snoc, drop-cons, drop-length}
use lib.Ieee.{Float}
use Rattle.std.proofs.lemmas.List.{get_or_default}
use Rattle.curve.specs.F64.{ratio}
use Rattle.curve.specs.declared.points.Point.{Point}
use Rattle.curve.specs.declared.units.Kw.{Kw}
use Rattle.power.specs.declared.charger_state.ChargerState.{ChargerState}
use Rattle.power.specs.declared.power.Limit.{Limit}
use Rattle.power.specs.ChargerState.{is_free, is_finished, draw, empty, progress}
use Rattle.power.specs.declared.power.Limit.TheVariants.{Unlimited, AtMost, Shared}
use Rattle.power.specs.Power.{active, request, added, total, scaling, cap_of, scaled_caps, even_caps, caps, with_caps, allocate, charge}
use Rattle.power.specs.Code.Rounds.{or_finished, any_finished}
use Rattle.power.specs.Code.Alone.{by_factor}
use Rattle.power.specs.Code.Bank.{Gaps, Cars, moved, advanced}
use Rattle.power.proofs.charger_state.Vacant.{free_stays, free_unfinished, free_adds}

-- the places listed are within the bank
pub gaps_within : (i : ℕ) (ss : List ChargerState) (ps : List ℕ) (k : ℕ) → Gaps i ss ps → k < length ps → get_or ps k 0 < i + length ss
gaps_within i [] ps k g h = absurd (omega (arith, rw g at h))
gaps_within i (s ∷ ss) ps k (inl w) h = omega (arith, gaps_within (i + 1) ss ps k w.1 h)
gaps_within i (s ∷ ss) ps zero (inr w) h = rw w.1 (omega arith)
gaps_within i (s ∷ ss) ps (suc k) (inr w) h =
    let behind = gaps_within (i + 1) ss w.0 k w.2 (omega (arith, rw w.1 at h)) in
    rw w.1 (omega (arith, behind))

pub cars_within : (ss : List ChargerState) (ps : List ℕ) (k : ℕ) → Cars ss ps → k < length ps → get_or ps k 0 < length ss
cars_within ss ps k cars h = omega (arith, gaps_within 0 ss ps k cars.gaps h)

pub one_more : (before : List ChargerState) (s : ChargerState) (i : ℕ) → length before ≡ i → length (before ++ (s ∷ [])) ≡ i + 1
one_more before s i e = rw length-append (omega arith)

module _ (f : ChargerState → ChargerState) where
  -- the bank after the turns of the chargers at the places ps
  abbrev pub passed : List ℕ → List ChargerState → List ChargerState
  passed [] ss = ss
  passed (p ∷ ps) ss = passed ps (set ss p (f (get_or ss p empty)))

  -- what they add up to, one after another
  abbrev pub tallied : {A : Type 0} → (A → ChargerState → A) → List ℕ → A → List ChargerState → A
  tallied add [] a ss = a
  tallied add (p ∷ ps) a ss = tallied add ps (add a (f (get_or ss p empty))) (set ss p (f (get_or ss p empty)))

  -- of the pass that began with a and the bank ss, the first k turns are over, which left a' and ss'
  pub record Passing {A : Type 0} (add : A → ChargerState → A) (ps : List ℕ) (a : A) (ss : List ChargerState) (k : ℕ) (a' : A) (ss' : List ChargerState) : Type 0 where
    pub size : length ss' ≡ length ss
    pub state : passed (drop k ps) ss' ≡ passed ps ss
    pub tally : tallied add (drop k ps) a' ss' ≡ tallied add ps a ss

  module _ {A : Type 0} {add : A → ChargerState → A} {ps : List ℕ} {a : A} {ss : List ChargerState} where
    pub passing_none : Passing add ps a ss 0 a ss
    passing_none = record { size = refl; state = refl; tally = refl }

    -- d stands for a charger past the bank, where no place is
    pub passing_more : {k : ℕ} {a' a'' : A} {s : ChargerState} {ss' : List ChargerState} (d : ChargerState) → Cars ss ps → k < length ps → Passing add ps a ss k a' ss'
        → s ≡ f (get_or ss' (get_or ps k 0) d) → a'' ≡ add a' s → Passing add ps a ss (k + 1) a'' (set ss' (get_or ps k 0) s)
    passing_more {k} {ss' = ss'} d cars h p e e' =
        let within : get_or ps k 0 < length ss' = omega (arith, p.size, cars_within ss ps k cars h) in
        let here : get_or ss' (get_or ps k 0) d ≡ get_or ss' (get_or ps k 0) empty = get_or_default ss' (get_or ps k 0) d empty within in
        record {
          size = rw length-set p.size;
          state = rw (e, here, add-one k) (rw (drop-cons ps k 0 h) at p.state);
          tally = rw (e', e, here, add-one k) (rw (drop-cons ps k 0 h) at p.tally);
        }

    pub passing_done : {k : ℕ} {a' : A} {ss' : List ChargerState} → k ≡ length ps → Passing add ps a ss k a' ss' → (ss' ≡ passed ps ss) × (a' ≡ tallied add ps a ss)
    passing_done {k} h p = (rw (h, drop-length ps) at p.state, rw (h, drop-length ps) at p.tally)

  -- the turn of one
  pub turned : (before : List ChargerState) (s : ChargerState) (ss : List ChargerState) (i : ℕ) → length before ≡ i
      → set (before ++ (s ∷ ss)) i (f (get_or (before ++ (s ∷ ss)) i empty)) ≡ (before ++ (f s ∷ [])) ++ ss
  turned before s ss i e =
      let here : get_or (before ++ (s ∷ ss)) i empty ≡ s = rw e at (get_or-append_seam before s ss empty) in
      rw (here, set_at before s ss (f s) i e) (sym (append_snoc before (f s) ss))

  module _ (still : (s : ChargerState) → is_free s.status ≡ true → f s ≡ s) where
    pass_behind : (before ss : List ChargerState) (i : ℕ) (ps : List ℕ) → length before ≡ i → Gaps i ss ps → passed ps (before ++ ss) ≡ before ++ map f ss
    pass_behind before [] i ps e g = rw g
    pass_behind before (s ∷ ss) i ps e (inl w) =
        rw (still s w.0, ← append_snoc before s ss, ← append_snoc before s (map f ss)) (pass_behind (before ++ (s ∷ [])) ss (i + 1) ps (one_more before s i e) w.1)
    pass_behind before (s ∷ ss) i ps e (inr w) =
        rw (w.1, turned before s ss i e, ← append_snoc before (f s) (map f ss)) (pass_behind (before ++ (f s ∷ [])) ss (i + 1) w.0 (one_more before (f s) i e) w.2)

    pub pass_all : (ss : List ChargerState) (ps : List ℕ) → Cars ss ps → passed ps ss ≡ map f ss
    pass_all ss ps cars = pass_behind [] ss 0 ps refl cars.gaps

    module _ {A : Type 0} (add : A → ChargerState → A) (free-adds : (a : A) (s : ChargerState) → is_free s.status ≡ true → add a s ≡ a)
        (whole : A → List ChargerState → A) (none : (a : A) → whole a [] ≡ a) (more : (a : A) (s : ChargerState) (ss : List ChargerState) → whole a (s ∷ ss) ≡ whole (add a s) ss) where
      tally_behind : (before ss : List ChargerState) (i : ℕ) (ps : List ℕ) (a : A) → length before ≡ i → Gaps i ss ps → tallied add ps a (before ++ ss) ≡ whole a (map f ss)
      tally_behind before [] i ps a e g = rw g (sym (none a))
      tally_behind before (s ∷ ss) i ps a e (inl w) =
          rw (still s w.0, more a s (map f ss), free-adds a s w.0, ← append_snoc before s ss) (tally_behind (before ++ (s ∷ [])) ss (i + 1) ps a (one_more before s i e) w.1)
      tally_behind before (s ∷ ss) i ps a e (inr w) =
          let here : get_or (before ++ (s ∷ ss)) i empty ≡ s = rw e at (get_or-append_seam before s ss empty) in
          rw (w.1, turned before s ss i e, here, more a (f s) (map f ss)) (tally_behind (before ++ (f s ∷ [])) ss (i + 1) w.0 (add a (f s)) (one_more before (f s) i e) w.2)

      pub tally_all : (a : A) (ss : List ChargerState) (ps : List ℕ) → Cars ss ps → tallied add ps a ss ≡ whole a (map f ss)
      tally_all a ss ps cars = tally_behind [] ss 0 ps a refl cars.gaps

-- ---- the two passes leave free chargers alone, and these add nothing

pub still_active : (change : ChargerState → ChargerState) (s : ChargerState) → is_free s.status ≡ true → active change s ≡ s
still_active change s h = rw h

pub still_moved : (cap : Kw) (s : ChargerState) → is_free s.status ≡ true → moved cap s ≡ s
still_moved cap s h = rw h (free_stays s.status s h)

still-advanced : (factor : Float) (s : ChargerState) → is_free s.status ≡ true → advanced factor s ≡ s
still-advanced factor s h = still_moved (cap_of factor s) s h

pub added-free : (sum : Float) (s : ChargerState) → is_free s.status ≡ true → added sum s ≡ sum
unfolding added
added-free sum s h = free_adds sum (draw s) s.status h

pub or_finished-free : (any : Bool) (s : ChargerState) → is_free s.status ≡ true → or_finished any s ≡ any
or_finished-free any s h = rw (free_unfinished s.status h)

-- a turn's answer, joined to those before it
pub or_finished_with : (any b : Bool) (s : ChargerState) → b ≡ is_finished s.status → (any || b) ≡ or_finished any s
or_finished_with any b s e = rw (← e) (go any b)
  where
    go : (a b : Bool) → (a || b) ≡ cond b true a
    go true true = refl
    go true false = refl
    go false true = refl
    go false false = refl

module _ (curve : ℕ → List Point) where
  abbrev pub asking : ChargerState → ChargerState
  asking = active (request curve)

  pub asked_all : (ss : List ChargerState) (ps : List ℕ) → Cars ss ps → passed asking ps ss ≡ map asking ss
  asked_all = pass_all asking (still_active (request curve))

  pub summed_all : (ss : List ChargerState) (ps : List ℕ) → Cars ss ps → tallied asking added ps (ratio 0 1) ss ≡ total (ratio 0 1) (map asking ss)
  summed_all = tally_all asking (still_active (request curve)) added added-free total (λ a. refl) (λ a s ss. refl) (ratio 0 1)

module _ (factor : Float) where
  pub moved_all : (ss : List ChargerState) (ps : List ℕ) → Cars ss ps → passed (advanced factor) ps ss ≡ map (advanced factor) ss
  moved_all = pass_all (advanced factor) (still-advanced factor)

  pub any_all : (ss : List ChargerState) (ps : List ℕ) → Cars ss ps → tallied (advanced factor) or_finished ps false ss ≡ any_finished false (map (advanced factor) ss)
  any_all = tally_all (advanced factor) (still-advanced factor) or_finished or_finished-free any_finished (λ a. refl) (λ a s ss. refl) false

-- ---- both passes are a round of power and progress

advanced_all : (factor : Float) (ss : List ChargerState) → map (advanced factor) ss ≡ map progress (with_caps (map (cap_of factor) ss) ss)
advanced_all factor [] = refl
advanced_all factor (s ∷ ss) = rw (advanced_all factor ss)

-- a limit that is not shared evenly
pub unshared_by_factor : (limit : Limit) → ((watts : ℕ) → limit ≡ Shared watts → ⊥) → by_factor limit ≡ true
unshared_by_factor Unlimited unshared = refl
unshared_by_factor (AtMost kw) unshared = refl
unshared_by_factor (Shared watts) unshared = absurd (unshared watts refl)

by_one_factor : (limit : Limit) (ss : List ChargerState) → by_factor limit ≡ true → caps limit ss ≡ scaled_caps limit ss
unfolding caps
by_one_factor Unlimited ss h = refl
by_one_factor (AtMost kw) ss h = refl
by_one_factor (Shared watts) ss h = cc

-- by one factor
pub both : (limit : Limit) (curve : ℕ → List Point) (ss : List ChargerState) {asked after : List ChargerState} {sum factor : Float} → by_factor limit ≡ true
    → asked ≡ map (active (request curve)) ss → sum ≡ total (ratio 0 1) asked → factor ≡ scaling limit sum → after ≡ map (advanced factor) asked
    → after ≡ charge limit curve ss
unfolding allocate
both limit curve ss {asked} {sum = sum} {factor = factor} h a s f m =
    let by_factor : map (advanced factor) asked ≡ map progress (with_caps (scaled_caps limit asked) asked) = unfold scaled_caps in rw (advanced_all factor asked, f, s) in
    m ∙ by_factor ∙ rw (← by_one_factor limit asked h, a)

-- or by even shares
pub both_shared : (watts : ℕ) (curve : ℕ → List Point) (ss : List ChargerState) {asked after : List ChargerState}
    → asked ≡ map (active (request curve)) ss → after ≡ map progress (with_caps (even_caps watts asked) asked) → after ≡ charge (Shared watts) curve ss
unfolding allocate caps
both_shared watts curve ss a m = rw (m, a)

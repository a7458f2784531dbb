-- One car among free chargers: its share is what it asks for, as far as the limit goes.
use mathlib.Core.Path.{◌≡◌, refl, sym, ap, ◌∙◌}
use mathlib.Core.Bool.{Bool, true, false, not, cond}
use mathlib.Core.List.{List, [], ◌∷◌, ◌++◌, map}
use Prim.Native.Nat.{ℕ, min}
use native.Mathlib.Omega.{arith}
use lib.ListN.{length, get_or, length-map}
use lib.Seq.{get_or-append_seam}
use Rattle.shares.specs.Watts.{watts_of}
use Rattle.shares.specs.Shares.{shares}
use Rattle.shares.proofs.even.Laws.{same_count, alone}
use Rattle.shares.proofs.even.LeftOut.{kept, those, left_out}
use Rattle.power.specs.declared.charger_state.Status.{Status}
use Rattle.power.specs.declared.charger_state.Status.TheVariants.{Free, Charging, Idle, Finished}
use Rattle.power.specs.declared.charger_state.ChargerState.{ChargerState}
use Rattle.power.specs.ChargerState.{is_free, is_charging, empty, draw, all_free}
use Rattle.power.specs.Power.{watts_asked}
use Rattle.power.proofs.charger_state.Vacant.{and_left, and_right}

abbrev pub busy : ChargerState → Bool
busy s = not (is_free s.status)

-- a free charger asks for nothing
pub free_asks : (s : ChargerState) → busy s ≡ false → watts_asked s ≡ 0
unfolding watts_asked
free_asks s = go s.status
  where
    go : (status : Status) → not (is_free status) ≡ false → cond (is_charging status) (watts_of (draw s)) 0 ≡ 0
    go Free h = refl
    go Charging h = cc
    go Idle h = refl
    go Finished h = refl

none_kept : {A : Type 0} (ss : List ChargerState) (xs : List A) → all_free ss ≡ true → kept (map busy ss) xs ≡ []
none_kept [] xs h = refl
none_kept (s ∷ ss) [] h = refl
none_kept (s ∷ ss) (x ∷ xs) h = rw (and_left (is_free s.status) (all_free ss) h) (none_kept ss xs (and_right (is_free s.status) (all_free ss) h))

module _ {A : Type 0} (none : A) (behind : List ChargerState) (free-behind : all_free behind ≡ true) (s : ChargerState) (h : is_free s.status ≡ false) where
  kept_among : (before : List ChargerState) (xs : List A) → all_free before ≡ true → length xs ≡ length (before ++ (s ∷ behind))
      → kept (map busy (before ++ (s ∷ behind))) xs ≡ get_or xs (length before) none ∷ []
  kept_among [] [] f e = absurd (omega arith)
  kept_among [] (x ∷ xs) f e = rw (h, none_kept behind xs free-behind)
  kept_among (b ∷ before) [] f e = absurd (omega arith)
  kept_among (b ∷ before) (x ∷ xs) f e =
      rw (and_left (is_free b.status) (all_free before) f) (kept_among before xs (and_right (is_free b.status) (all_free before) f) (omega arith))

module _ (before behind : List ChargerState) (free-before : all_free before ≡ true) (free-behind : all_free behind ≡ true) (s : ChargerState) (h : is_free s.status ≡ false) where
  abbrev all : List ChargerState
  all = before ++ (s ∷ behind)

  just_one : those busy watts_asked free_asks all ≡ s ∷ []
  just_one = kept_among empty behind free-behind s h before all free-before refl ∙ ap (λ (x : ChargerState). x ∷ []) (get_or-append_seam before s behind empty)

  pub only_share : (limit : ℕ) → get_or (shares (map watts_asked all) limit) (length before) 0 ≡ min (watts_asked s) limit
  only_share limit =
      let whole = shares (map watts_asked all) limit in
      let size : length whole ≡ length all = same_count (map watts_asked all) limit ∙ length-map all watts_asked in
      ap (λ (l : List ℕ). get_or l 0 0)
      (sym (kept_among 0 behind free-behind s h before whole free-before size)
      ∙ left_out busy watts_asked free_asks limit all
      ∙ ap (λ (l : List ChargerState). shares (map watts_asked l) limit) just_one
      ∙ alone (watts_asked s) limit)

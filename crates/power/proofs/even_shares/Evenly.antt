-- A round gives fair shares, where the limit is shared evenly.
use mathlib.Core.Path.{◌≡◌, refl, ◌∙◌}
use mathlib.Core.Bool.{false, true≢false}
use mathlib.Core.List.{List, [], ◌∷◌, map}
use Prim.Native.Nat.{ℕ, zero, suc}
use native.Mathlib.Omega.{arith}
use lib.ListN.{length, get_or, length-map}
use Rattle.curve.specs.declared.points.Point.{Point}
use Rattle.shares.specs.Shares.{shares}
use Rattle.shares.proofs.even.Laws.{same_count, fair}
use Rattle.power.specs.declared.charger_state.Status.{Status}
use Rattle.power.specs.declared.charger_state.Status.TheVariants.{Free, Charging, Idle, Finished}
use Rattle.power.specs.declared.charger_state.ChargerState.{ChargerState}
use Rattle.power.specs.declared.power.Limit.{Limit}
use Rattle.power.specs.declared.power.Limit.TheVariants.{Shared}
use Rattle.power.specs.ChargerState.{is_free, empty, with_cap, after_charging, after_idling, progress_by, progress}
use Rattle.power.specs.Power.{active, request, watts_asked, cap_of_share, even_caps, caps, with_caps, allocate, charge}
use Rattle.power.specs.EvenShares.{asks, SharedEvenly}
use Rattle.power.proofs.power.SameCars.{same_free, same_requested}

progress_cap : (s : ChargerState) → (progress s).cap ≡ s.cap
unfolding after_charging after_idling
progress_cap s = go s.status
  where
    go : (status : Status) → (progress_by status s).cap ≡ s.cap
    go Free = refl
    go Charging = refl
    go Idle = refl
    go Finished = refl

-- each busy charger's cap after the round
capped : (given : List ℕ) (ss : List ChargerState) (i : ℕ) → length given ≡ length ss → is_free (get_or ss i empty).status ≡ false
    → (get_or (map progress (with_caps (map cap_of_share given) ss)) i empty).cap ≡ cap_of_share (get_or given i 0)
unfolding empty
capped [] [] i e h = absurd (true≢false h)
capped [] (s ∷ ss) i e h = absurd (omega arith)
capped (w ∷ given) [] i e h = absurd (omega arith)
capped (w ∷ given) (s ∷ ss) zero e h = progress_cap (active (with_cap (cap_of_share w)) s) ∙ rw h
capped (w ∷ given) (s ∷ ss) (suc i) e h = capped given ss i (omega arith) h

module _ (curve : ℕ → List Point) (ss : List ChargerState) where
  abbrev requested : List ChargerState
  requested = map (active (request curve)) ss

  by_shares : (watts : ℕ) → charge (Shared watts) curve ss ≡ map progress (with_caps (map cap_of_share (shares (asks curve ss) watts)) requested)
  unfolding allocate caps even_caps
  by_shares watts = refl

  pub shared_evenly : (limit : Limit) → SharedEvenly limit curve ss (charge limit curve ss)
  shared_evenly limit watts e =
      let whole = shares (asks curve ss) watts in
      let size : length whole ≡ length requested = same_count (asks curve ss) watts ∙ length-map requested watts_asked in
      record {
        given = whole;
        fair = fair (asks curve ss) watts;
        caps = λ i h. rw (e, by_shares watts) (capped whole requested i size (same_free (same_requested curve ss) i ∙ h));
      }

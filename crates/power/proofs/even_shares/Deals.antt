-- The shares of the cars at the places listed are theirs among all chargers, and dealing them is the power rule's second pass.
use mathlib.Core.Path.{◌≡◌, refl, sym, ap, ◌∙◌}
use mathlib.Core.Logic.{inl, inr}
use mathlib.Core.Bool.{Bool, false, ◌||◌}
use mathlib.Core.List.{List, [], ◌∷◌, ◌++◌, map, map-append}
use Prim.Native.Nat.{ℕ, ◌+◌, ◌<◌}
use native.Mathlib.Numerals.{add-one}
use native.Mathlib.Omega.{arith}
use lib.ListN.{length, get_or, set, take, drop, length-map, length-set}
use lib.Seq.{get_or-append_seam, append_snoc, take-suc, drop-cons, drop-length}
use Rattle.std.proofs.lemmas.List.{length-take-le, get_or_default}
use Rattle.shares.specs.Shares.{shares}
use Rattle.shares.proofs.even.Laws.{same_count}
use Rattle.shares.proofs.even.LeftOut.{kept, left_out}
use Rattle.power.specs.declared.charger_state.ChargerState.{ChargerState}
use Rattle.power.specs.ChargerState.{is_free, is_finished, empty, progress}
use Rattle.power.specs.Power.{watts_asked, cap_of_share, even_caps, with_caps}
use Rattle.power.specs.Code.Rounds.{or_finished, any_finished}
use Rattle.power.specs.Code.Bank.{Gaps, Cars, moved}
use Rattle.power.specs.Code.Deal.{watts_at, dealt, any_dealt_from, any_dealt}
use Rattle.power.proofs.power.Passes.{cars_within, one_more, turned, still_moved, or_finished-free, or_finished_with}
use Rattle.power.proofs.even_shares.AmongFree.{busy, free_asks}

-- the bank after a round under the shares `all`, which stand by charger place
abbrev after : List ℕ → List ChargerState → List ChargerState
after all ss = map progress (with_caps (map cap_of_share all) ss)

-- what the cars at the places listed ask for is what the busy chargers ask for
asked_behind : (before ss : List ChargerState) (i : ℕ) (ps : List ℕ) → length before ≡ i → Gaps i ss ps → map watts_asked (kept (map busy ss) ss) ≡ watts_at (before ++ ss) ps
asked_behind before [] i ps e g = rw g
asked_behind before (s ∷ ss) i ps e (inl w) =
    rw w.0 (asked_behind (before ++ (s ∷ [])) ss (i + 1) ps (one_more before s i e) w.1 ∙ ap (λ (l : List ChargerState). watts_at l ps) (append_snoc before s ss))
asked_behind before (s ∷ ss) i ps e (inr w) =
    let here : get_or (before ++ (s ∷ ss)) i empty ≡ s = rw e at (get_or-append_seam before s ss empty) in
    rw (w.1, w.3, here)
    (ap (λ (l : List ℕ). watts_asked s ∷ l)
    (asked_behind (before ++ (s ∷ [])) ss (i + 1) w.0 (one_more before s i e) w.2 ∙ ap (λ (l : List ChargerState). watts_at l w.0) (append_snoc before s ss)))

-- the share of a car that is listed
kept_car : (w : ℕ) (all : List ℕ) (s : ChargerState) (ss : List ChargerState) → is_free s.status ≡ false → kept (map busy (s ∷ ss)) (w ∷ all) ≡ w ∷ kept (map busy ss) all
kept_car w all s ss h = rw h

module _ (w : ℕ) (before : List ChargerState) (s : ChargerState) (ss : List ChargerState) (i : ℕ) (e : length before ≡ i) where
  abbrev t : ChargerState
  t = moved (cap_of_share w) s

  -- the turn of the car s
  turn : set (before ++ (s ∷ ss)) i (moved (cap_of_share w) (get_or (before ++ (s ∷ ss)) i empty)) ≡ (before ++ (t ∷ [])) ++ ss
  turn = turned (moved (cap_of_share w)) before s ss i e

dealt_behind : (all : List ℕ) (before ss : List ChargerState) (i : ℕ) (ps : List ℕ) → length all ≡ length ss → length before ≡ i → Gaps i ss ps
    → dealt ps (kept (map busy ss) all) (before ++ ss) ≡ before ++ after all ss
dealt_behind [] before [] i ps n e g = rw g
dealt_behind [] before (s ∷ ss) i ps n e g = absurd (omega arith)
dealt_behind (w ∷ all) before [] i ps n e g = absurd (omega arith)
dealt_behind (w ∷ all) before (s ∷ ss) i ps n e (inl g) =
    rw (still_moved (cap_of_share w) s g.0, g.0, ← append_snoc before s ss, ← append_snoc before s (after all ss))
    (dealt_behind all (before ++ (s ∷ [])) ss (i + 1) ps (omega arith) (one_more before s i e) g.1)
dealt_behind (w ∷ all) before (s ∷ ss) i ps n e (inr g) =
    rw (g.1, kept_car w all s ss g.3, turn w before s ss i e, ← append_snoc before (t w before s ss i e) (after all ss))
    (dealt_behind all (before ++ (t w before s ss i e ∷ [])) ss (i + 1) g.0 (omega arith) (one_more before (t w before s ss i e) i e) g.2)

any_behind : (all : List ℕ) (any : Bool) (before ss : List ChargerState) (i : ℕ) (ps : List ℕ) → length all ≡ length ss → length before ≡ i → Gaps i ss ps
    → any_dealt_from any ps (kept (map busy ss) all) (before ++ ss) ≡ any_finished any (after all ss)
any_behind [] any before [] i ps n e g = rw g
any_behind [] any before (s ∷ ss) i ps n e g = absurd (omega arith)
any_behind (w ∷ all) any before [] i ps n e g = absurd (omega arith)
any_behind (w ∷ all) any before (s ∷ ss) i ps n e (inl g) =
    rw (still_moved (cap_of_share w) s g.0, or_finished-free any s g.0, g.0, ← append_snoc before s ss)
    (any_behind all any (before ++ (s ∷ [])) ss (i + 1) ps (omega arith) (one_more before s i e) g.1)
any_behind (w ∷ all) any before (s ∷ ss) i ps n e (inr g) =
    let here : get_or (before ++ (s ∷ ss)) i empty ≡ s = rw e at (get_or-append_seam before s ss empty) in
    rw (g.1, kept_car w all s ss g.3, turn w before s ss i e, here)
    (any_behind all (or_finished any (t w before s ss i e)) (before ++ (t w before s ss i e ∷ [])) ss (i + 1) g.0 (omega arith) (one_more before (t w before s ss i e) i e) g.2)

module _ {ss : List ChargerState} {ps : List ℕ} (cars : Cars ss ps) (limit : ℕ) where
  -- by charger place
  abbrev by_place : List ℕ
  by_place = shares (map watts_asked ss) limit

  abbrev by_car : List ℕ
  by_car = shares (watts_at ss ps) limit

  same_size : length by_place ≡ length ss
  same_size = same_count (map watts_asked ss) limit ∙ length-map ss watts_asked

  theirs : by_car ≡ kept (map busy ss) by_place
  theirs =
      sym (left_out busy watts_asked free_asks limit ss ∙ ap (λ (l : List ℕ). shares l limit) (asked_behind [] ss 0 ps refl cars.gaps))

  pub dealt_all : dealt ps by_car ss ≡ map progress (with_caps (even_caps limit ss) ss)
  unfolding even_caps
  dealt_all = rw theirs (dealt_behind by_place [] ss 0 ps same_size refl cars.gaps)

  pub any_dealt_all : any_dealt ps by_car ss ≡ any_finished false (map progress (with_caps (even_caps limit ss) ss))
  unfolding even_caps
  any_dealt_all = rw theirs (any_behind by_place false [] ss 0 ps same_size refl cars.gaps)

-- ---- one more

module _ (bank : List ChargerState) (ps : List ℕ) (k : ℕ) {ws : List ℕ} (h : k < length ps) (e : ws ≡ watts_at bank (take k ps)) where
  pub asked_few : length ws < length ps
  asked_few = rw (e, length-map (take k ps) (λ p. watts_asked (get_or bank p empty))) (omega (arith, length-take-le k ps (omega arith)))

  -- d stands for a charger past the bank, where no place is
  pub asked_more : Cars bank ps → (d : ChargerState) (w : ℕ) → w ≡ watts_asked (get_or bank (get_or ps k 0) d) → ws ++ (w ∷ []) ≡ watts_at bank (take (k + 1) ps)
  asked_more cars d w f =
      let here : get_or bank (get_or ps k 0) d ≡ get_or bank (get_or ps k 0) empty = get_or_default bank (get_or ps k 0) d empty (cars_within bank ps k cars h) in
      rw (add-one k, take-suc ps k 0 h, map-append, e, f, here)

-- of the dealing that began with the bank ss, the first k turns are over, which left ss'
pub record Dealing (ps ws : List ℕ) (ss : List ChargerState) (k : ℕ) (any : Bool) (ss' : List ChargerState) : Type 0 where
  pub size : length ss' ≡ length ss
  pub state : dealt (drop k ps) (drop k ws) ss' ≡ dealt ps ws ss
  pub found : any_dealt_from any (drop k ps) (drop k ws) ss' ≡ any_dealt ps ws ss

module _ {ps ws : List ℕ} {ss : List ChargerState} {k : ℕ} {any : Bool} {ss' : List ChargerState} (places : length ws ≡ length ps) where
  pub deal_more : Dealing ps ws ss k any ss' → Cars ss ps → k < length ps → (d : ChargerState) {t : ChargerState} {b : Bool} → t ≡ moved (cap_of_share (get_or ws k 0)) (get_or ss' (get_or ps k 0) d) → b ≡ is_finished t.status
      → Dealing ps ws ss (k + 1) (any || b) (set ss' (get_or ps k 0) t)
  deal_more over cars h d {t} {b} e f =
      let within : get_or ps k 0 < length ss' = omega (arith, over.size, cars_within ss ps k cars h) in
      let here : get_or ss' (get_or ps k 0) d ≡ get_or ss' (get_or ps k 0) empty = get_or_default ss' (get_or ps k 0) d empty within in
      record {
        size = rw length-set over.size;
        state = rw (e, here, add-one k) (rw (drop-cons ps k 0 h, drop-cons ws k 0 (omega arith)) at over.state);
        found = rw (or_finished_with any b t f, e, here, add-one k) (rw (drop-cons ps k 0 h, drop-cons ws k 0 (omega arith)) at over.found);
      }

  pub deal_done : k ≡ length ps → Dealing ps ws ss k any ss' → (ss' ≡ dealt ps ws ss) × (any ≡ any_dealt ps ws ss)
  deal_done h d = (rw (h, drop-length ps) at d.state, rw (h, drop-length ps) at d.found)

-- Whether a run has ended, as the code finds it out.
use Rattle.std.proofs.Common.{◌≡◌, Bool, true, false, ◌&&◌, eqb, List, [], ◌∷◌, length, sym, refl, ap, arith, ne_eqb}
use Rattle.std.specs.List.{list_all}
use Rattle.power.specs.declared.charger_state.ChargerState.{ChargerState}
use Rattle.power.specs.ChargerState.{is_free, all_free}
use Rattle.engine.specs.SiteState.{is_empty}

-- a list is empty by its length
pub empty_length : {A : Type 0} (l : List A) → eqb (length l) 0 ≡ is_empty l
empty_length [] = refl
empty_length (x ∷ l) = ne_eqb (length (x ∷ l)) 0 (λ e. omega arith)

pub all_free_is : (ss : List ChargerState) → list_all (λ s. is_free s.status) ss ≡ all_free ss
all_free_is [] = refl
all_free_is (s ∷ ss) = ap (λ b. is_free s.status && b) (all_free_is ss)

-- no event and nobody queued
pub ended_all : {A B : Type 0} (es : List A) (ws : List B) (ss : List ChargerState) (a : Bool) → eqb (length es) 0 ≡ true → eqb (length ws) 0 ≡ true
    → a ≡ list_all (λ s. is_free s.status) ss → a ≡ (is_empty es && (all_free ss && is_empty ws))
ended_all es ws ss a e w h = rw (← empty_length es, ← empty_length ws, e, w, h, all_free_is ss) (sym (and_true (all_free ss)))
  where
    and_true : (b : Bool) → (b && true) ≡ b
    and_true true = refl
    and_true false = refl

-- Four letters that bytes begin with, tested one by one. Assumes nothing.
use Rattle.std.proofs.Common.{◌≡◌, ℕ, ◌≤◌, ◌&&◌, List, [], ◌∷◌, length, ◌==◌, slice_index, nat_eq, arith}
use Rattle.std.proofs.lemmas.Grind.{common_steps}
use Rattle.std.specs.List.{starts_with}

pub four_letters : (b : List ℕ) (p q r s : ℕ) → 4 ≤ length b
    → starts_with nat_eq b (p ∷ q ∷ r ∷ s ∷ []) ≡ (slice_index b 0 == p && slice_index b 1 == q && slice_index b 2 == r && slice_index b 3 == s)
four_letters [] p q r s h = absurd (omega arith)
four_letters (x ∷ []) p q r s h = absurd (omega arith)
four_letters (x ∷ y ∷ []) p q r s h = absurd (omega arith)
four_letters (x ∷ y ∷ z ∷ []) p q r s h = absurd (omega arith)
four_letters (x ∷ y ∷ z ∷ w ∷ b) p q r s h = grind (arith, common_steps)

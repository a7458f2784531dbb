-- Sessions keep their index, and a closed one never changes.
use Rattle.std.proofs.Common.{◌≡◌, ℕ, zero, suc, Bool, true, false, List, [], ◌∷◌, ◌++◌, get_or, set, refl, ◌∙◌}
use Rattle.engine.specs.declared.session.Session.{Session}
use Rattle.engine.specs.Demand.{is_closed, Kept, longer, keeps}

pub kept_append : (xs ys : List Session) → Kept xs (xs ++ ys)
kept_append [] ys = longer
kept_append (x ∷ xs) ys = keeps (λ h. refl) (kept_append xs ys)

pub kept_refl : (xs : List Session) → Kept xs xs
kept_refl [] = longer
kept_refl (x ∷ xs) = keeps (λ h. refl) (kept_refl xs)

pub kept_trans : {xs ys zs : List Session} → Kept xs ys → Kept ys zs → Kept xs zs
kept_trans longer k = longer
kept_trans (keeps {x = x} {y = y} h hs) (keeps k ks) =
    keeps
    (λ (c : is_closed x.outcome ≡ true).
    let e : y ≡ x = h c in
    k (rw e c) ∙ e)
    (kept_trans hs ks)

never : (b : Bool) (x y : Session) → b ≡ true → b ≡ false → x ≡ y
never true x y h k = cc
never false x y h k = cc

-- an open session may be replaced
pub kept_set : (xs : List Session) (i : ℕ) (y d : Session) → is_closed (get_or xs i d).outcome ≡ false → Kept xs (set xs i y)
kept_set [] i y d h = longer
kept_set (x ∷ xs) zero y d h = keeps (λ c. never (is_closed x.outcome) y x c h) (kept_refl xs)
kept_set (x ∷ xs) (suc i) y d h = keeps (λ c. refl) (kept_set xs i y d h)

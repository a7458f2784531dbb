-- What the book says of the sessions up to the next one.
use Rattle.std.proofs.Common.{◌≡◌, ◌∙◌, ℕ, ◌+◌, ◌<◌, map, List, [], ◌∷◌, ◌++◌, length, get_or, take}
use Rattle.std.proofs.lemmas.List.{map-append}
use Rattle.charger.proofs.waiting_queue.Part.{take_more}

-- one entry more
pub map_more : {A B : Type 0} (g : A → B) (l : List A) (a r : List B) (i : ℕ) (d : A) (x : B) → i < length l
    → a ≡ map g (take i l) → x ≡ g (get_or l i d) → r ≡ a ++ (x ∷ []) → r ≡ map g (take (i + 1) l)
map_more g l a r i d x h p e q = q ∙ rw (p, e, take_more l i d h, map-append)

-- Who asks for nothing can be left out: the others have the same shares.
use Rattle.std.proofs.Common.{◌≡◌, ℕ, zero, suc, Bool, true, false, cond, leb, List, [], ◌∷◌, map, refl, zero-le, arith, le-ltb}
use Rattle.shares.specs.Shares.{total, cut, highest, level, left_over, left_after, given, shares}

-- of a list, what is marked
abbrev pub kept : {A : Type 0} → List Bool → List A → List A
kept [] xs = []
kept (b ∷ bs) [] = []
kept (b ∷ bs) (x ∷ xs) = cond b (x ∷ kept bs xs) (kept bs xs)

module _ {A : Type 0} (p : A → Bool) (w : A → ℕ) (nothing : (a : A) → p a ≡ false → w a ≡ 0) where
  -- who is marked
  abbrev pub those : List A → List A
  those xs = kept (map p xs) xs

  by_mark : {P : Type 0} (a : A) → (p a ≡ true → P) → (p a ≡ false → P) → P
  by_mark {P} a is isnt = go (p a) refl
    where
      go : (b : Bool) → p a ≡ b → P
      go true h = is h
      go false h = isnt h

  marked : (a : A) (xs : List A) → p a ≡ true → those (a ∷ xs) ≡ a ∷ those xs
  marked a xs h = rw h

  unmarked : (a : A) (xs : List A) → p a ≡ false → those (a ∷ xs) ≡ those xs
  unmarked a xs h = rw h

  same_total : (xs : List A) → total (map w xs) ≡ total (map w (those xs))
  unfolding total
  same_total [] = refl
  same_total (a ∷ xs) =
      by_mark a
      (λ h. rw (marked a xs h, same_total xs))
      (λ h. rw (unmarked a xs h) (omega (arith, nothing a h, same_total xs)))

  same_cut : (l : ℕ) (xs : List A) → total (cut l (map w xs)) ≡ total (cut l (map w (those xs)))
  unfolding total cut
  same_cut l [] = refl
  same_cut l (a ∷ xs) =
      by_mark a
      (λ h. rw (marked a xs h, same_cut l xs))
      (λ h. rw (unmarked a xs h) (omega (arith, nothing a h, same_cut l xs)))

  same_highest : (limit l : ℕ) (xs : List A) → highest (map w xs) limit l ≡ highest (map w (those xs)) limit l
  unfolding highest
  same_highest limit zero xs = refl
  same_highest limit (suc l) xs = rw (same_cut (suc l) xs, same_highest limit l xs)

  same_level : (limit : ℕ) (xs : List A) → level (map w xs) limit ≡ level (map w (those xs)) limit
  unfolding level
  same_level limit xs = same_highest limit limit xs

  none_given : (l left r : ℕ) → r ≡ 0 → left_after l left r ≡ left
  none_given l left r e = rw (e, le-ltb l 0 zero-le)

  same_given : (l left : ℕ) (xs : List A) → kept (map p xs) (given l left (map w xs)) ≡ given l left (map w (those xs))
  unfolding given
  same_given l left [] = refl
  same_given l left (a ∷ xs) =
      by_mark a
      (λ h. rw (marked a xs h, h, same_given l (left_after l left (w a)) xs))
      (λ h. rw (unmarked a xs h, h, none_given l left (w a) (nothing a h)) (same_given l left xs))

  pub left_out : (limit : ℕ) (xs : List A) → kept (map p xs) (shares (map w xs) limit) ≡ shares (map w (those xs)) limit
  unfolding shares
  left_out limit xs =
      rw (same_total xs, same_level limit xs, same_cut (level (map w (those xs)) limit) xs) (go (leb (total (map w (those xs))) limit))
    where
      all : (xs : List A) → kept (map p xs) (map w xs) ≡ map w (those xs)
      all [] = refl
      all (a ∷ xs) = by_mark a (λ h. rw (marked a xs h, h, all xs)) (λ h. rw (unmarked a xs h, h) (all xs))

      l : ℕ
      l = level (map w (those xs)) limit

      left : ℕ
      left = left_over (map w (those xs)) limit

      go : (b : Bool) → kept (map p xs) (cond b (map w xs) (given l left (map w xs))) ≡ cond b (map w (those xs)) (given l left (map w (those xs)))
      go true = all xs
      go false = same_given l left xs

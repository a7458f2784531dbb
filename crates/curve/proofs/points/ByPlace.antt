-- A count of the points up to the first that stops it, by place: what holds before the point at i is tested, and what the test says.
use Rattle.std.proofs.Common.{◌≡◌, ℕ, suc, ◌+◌, ◌<◌, ◌≤◌, Bool, true, false, cond, not, List, [], ◌∷◌, length, get_or, drop, refl, arith, drop_of_length-le}
use Rattle.std.proofs.lemmas.List.{drop_more}
use lib.Ieee.{Float, nan, lt, le}
use Rattle.curve.specs.Curve.{reached}
use Rattle.curve.specs.Code.Places.{passed}
use Rattle.curve.specs.declared.points.Point.{Point}

-- what stands for a point past the end, where nothing is read
abbrev pub past_end : Point
past_end = record { soc = nan; power = record { 0 = nan } }

module _ (count : List Point → ℕ) (ps : List Point) where
  -- the first i points count: with what is counted from i on, as many as in all
  pub record Upto (i : ℕ) : Type 0 where
    pub within : i ≤ length ps
    pub so_far : i + count (drop i ps) ≡ count ps

  pub starts : Upto 0
  starts = record { within = omega arith; so_far = omega arith }

  module _ (i : ℕ) (u : Upto i) where
    pub past : length ps ≤ i → count [] ≡ 0 → length ps ≡ count ps
    past h none =
        let left : count (drop i ps) ≡ 0 = rw drop_of_length-le none in
        omega (arith, u.so_far, u.within, left)

    module _ (stop : Point → Bool) (step : (p : Point) (l : List Point) → count (p ∷ l) ≡ cond (stop p) 0 (suc (count l))) (h : i < length ps) where
      at_point : {b : Bool} → stop (get_or ps i past_end) ≡ b → count (drop i ps) ≡ cond b 0 (suc (count (drop (i + 1) ps)))
      at_point t = rw (drop_more ps i past_end, step, t)

      pub stops : stop (get_or ps i past_end) ≡ true → i ≡ count ps
      stops t = omega (arith, u.so_far, at_point t)

      pub goes_on : stop (get_or ps i past_end) ≡ false → Upto (i + 1)
      goes_on t = record { within = omega arith; so_far = omega (arith, u.so_far, at_point t) }

-- the two counts
pub reached_step : (s : Float) (p : Point) (l : List Point) → reached s (p ∷ l) ≡ cond (lt s p.soc) 0 (suc (reached s l))
unfolding reached
reached_step s p l = refl

-- what is reached from the place i on, by the test of the point there
pub reached_at : (s : Float) (ps : List Point) (i : ℕ) → i < length ps → {b : Bool} → lt s (get_or ps i past_end).soc ≡ b
    → reached s (drop i ps) ≡ cond b 0 (suc (reached s (drop (i + 1) ps)))
reached_at s ps i h t = rw (drop_more ps i past_end, reached_step, t)

pub passed_step : (s : Float) (p : Point) (l : List Point) → passed s (p ∷ l) ≡ cond (not (le p.soc s)) 0 (suc (passed s l))
unfolding passed
passed_step s p l = go (le p.soc s) (suc (passed s l))
  where
    go : (b : Bool) (n : ℕ) → cond b n 0 ≡ cond (not b) 0 n
    go true n = refl
    go false n = refl

-- Where a profile's curve stands in the table, and where it has none.
use mathlib.Core.Path.{◌≡◌}
use mathlib.Core.List.{List, []}
use Prim.Native.Nat.{ℕ, ◌+◌, ◌*◌, ◌-◌, ◌≤◌, ◌<◌}
use native.Mathlib.Omega.{arith}
use borrow.Author.Tests.{le-leb, lt-leb, lt-ltb, le-ltb}
use lib.ListN.{length, get_or, take, drop}
use Rattle.curve.specs.declared.points.Point.{Point}
use Rattle.charger.specs.Code.Profiles.{curve_at}

module _ (curves : List Point) (lens : List ℕ) (k : ℕ) where
  pub inside : (end : ℕ) → k < length lens → end ≡ 32 * k + get_or lens k 0 → end ≤ length curves
      → curve_at curves lens k ≡ take (end - 32 * k) (drop (32 * k) curves)
  unfolding curve_at
  inside end h e f =
      let size : end - 32 * k ≡ get_or lens k 0 = omega arith in
      let fits : 32 * k + get_or lens k 0 ≤ length curves = omega arith in
      rw size (simp (lt-ltb _ _ h, le-leb _ _ fits))

  pub past : length lens ≤ k → curve_at curves lens k ≡ []
  unfolding curve_at
  past h = simp (le-ltb _ _ h)

  pub too_short : k < length lens → length curves < 32 * k + get_or lens k 0 → curve_at curves lens k ≡ []
  unfolding curve_at
  too_short h f = simp (lt-ltb _ _ h, lt-leb _ _ f)

-- The limits of a plan: the test of a bit pattern and what it says of the value.
use Rattle.std.proofs.Common.{◌≡◌, ℕ, zero, suc, ◌+◌, ◌/◌, ◌%◌, ◌^◌, ◌<◌, ◌≤◌, Bool, true, false, cond, not, ◌&&◌, T, eqb, ltb, leb, List, [], ◌∷◌, length, get_or, sym, subst, not-le_of_lt, arith, ltb→lt, leb→le, lt-ltb}
use lib.Dec.{nleb→lt}
use lib.Ieee.{Float, nan, inf, fin, binary64, odd, le, fits, of_fields, of_bits}
use lib.Ieee.Fits.{and_l, and_r}
use lib.Ieee.Bits.{of_bits-fits, is_true}
use Rattle.curve.specs.F64.{in_range, clear}
use Rattle.curve.specs.Curve.{origin}
use Rattle.curve.specs.declared.points.Point.{Point}
use Rattle.curve.specs.Limits.{Within, Soc, Power, Held}

-- what is rounded with a clear sign has a clear sign, and one with the sign set has not
pub odd_clear : (d q k l : ℕ) → T (clear (odd d false q k l))
unfolding odd
odd_clear d zero k l = tt
odd_clear d (suc q) k l = tt

odd_set : (d q k l : ℕ) → T (clear (odd d true q k l)) → ⊥
unfolding odd
odd_set d zero k l h = h
odd_set d (suc q) k l h = h

no_nan : (x : Float) → T (le x nan) → ⊥
unfolding le
no_nan nan t = t
no_nan (inf s) t = t
no_nan (fin s m e) t = t

fields-clear : (lo : Float) (x t : ℕ) → T (le lo (of_fields binary64 false x t)) → T (clear (of_fields binary64 false x t))
unfolding of_fields
fields-clear lo zero t h = odd_clear 53 t 0 1074
fields-clear lo (suc x) t h = go (eqb (suc x) 2047) (eqb t 0) h
  where
    go : (a b : Bool) → T (le lo (cond a (cond b (inf false) nan) (odd 53 false (2 ^ 52 + t) x 1074))) → T (clear (cond a (cond b (inf false) nan) (odd 53 false (2 ^ 52 + t) x 1074)))
    go true true h = tt
    go true false h = absurd (no_nan lo h)
    go false b h = odd_clear 53 (2 ^ 52 + t) x 1074

bits_clear : (lo : Float) (b : ℕ) → b < 2 ^ 63 → T (le lo (of_bits binary64 b)) → T (clear (of_bits binary64 b))
unfolding of_bits
bits_clear lo b l = go (leb (2 ^ 63) b) (leb→le (2 ^ 63) b)
  where
    go : (s : Bool) → (T s → 2 ^ 63 ≤ b) → T (le lo (of_fields binary64 s (b % 2 ^ 63 / 2 ^ 52) (b % 2 ^ 52))) → T (clear (of_fields binary64 s (b % 2 ^ 63 / 2 ^ 52) (b % 2 ^ 52)))
    go true p h = absurd (not-le_of_lt l (p tt))
    go false p h = fields-clear lo (b % 2 ^ 63 / 2 ^ 52) (b % 2 ^ 52) h

fields-set : (x t : ℕ) → T (clear (of_fields binary64 true x t)) → ⊥
unfolding of_fields
fields-set zero t h = odd_set 53 t 0 1074 h
fields-set (suc x) t h = go (eqb (suc x) 2047) (eqb t 0) h
  where
    go : (a b : Bool) → T (clear (cond a (cond b (inf true) nan) (odd 53 true (2 ^ 52 + t) x 1074))) → ⊥
    go true true h = h
    go true false h = h
    go false b h = odd_set 53 (2 ^ 52 + t) x 1074 h

bits_below : (b : ℕ) → T (clear (of_bits binary64 b)) → b < 2 ^ 63
unfolding of_bits
bits_below b h = go (leb (2 ^ 63) b) (nleb→lt (2 ^ 63) b) h
  where
    go : (s : Bool) → (T (not s) → b < 2 ^ 63) → T (clear (of_fields binary64 s (b % 2 ^ 63 / 2 ^ 52) (b % 2 ^ 52))) → b < 2 ^ 63
    go true p h = absurd (fields-set (b % 2 ^ 63 / 2 ^ 52) (b % 2 ^ 52) h)
    go false p h = p tt

-- the test of the bits says that the value is within the limits, and the other way round
pub from_bits : (b : ℕ) (lo hi : Float) → in_range b lo hi ≡ true → Within lo hi (of_bits binary64 b)
from_bits b lo hi e =
    let x = of_bits binary64 b in
    let t : T (in_range b lo hi) = subst T (sym e) tt in
    let r = and_r (ltb b (2 ^ 63)) (le lo x && le x hi) t in
    record {
      fits = of_bits-fits binary64 b;
      clear = bits_clear lo b (ltb→lt b (2 ^ 63) (and_l (ltb b (2 ^ 63)) (le lo x && le x hi) t)) (and_l (le lo x) (le x hi) r);
      low = and_l (le lo x) (le x hi) r;
      high = and_r (le lo x) (le x hi) r;
    }

pub to_bits_lem : (b : ℕ) (lo hi : Float) → Within lo hi (of_bits binary64 b) → in_range b lo hi ≡ true
to_bits_lem b lo hi w =
    let x = of_bits binary64 b in
    simp (lt-ltb b (2 ^ 63) (bits_below b w.clear), is_true (le lo x) w.low, is_true (le x hi) w.high)

-- ---- the limits as one test, for values that compute
abbrev pub tests : Float → Float → Float → Bool
tests lo x hi = fits binary64 x && clear x && (le lo x && le x hi)

pub tested : (lo x hi : Float) → T (tests lo x hi) → Within lo hi x
tested lo x hi t =
    let a = and_l (fits binary64 x && clear x) (le lo x && le x hi) t in
    let b = and_r (fits binary64 x && clear x) (le lo x && le x hi) t in
    record { fits = and_l (fits binary64 x) (clear x) a; clear = and_r (fits binary64 x) (clear x) a; low = and_l (le lo x) (le x hi) b; high = and_r (le lo x) (le x hi) b }

-- a profile is within the limits if each of its points is
pub each_held : (ps : List Point) → ((i : ℕ) → i < length ps → Soc (get_or ps i origin).soc × Power (get_or ps i origin).power.0) → Held ps
unfolding Held
each_held [] h = tt
each_held (p ∷ ps) h =
    let g = h 0 (omega arith) in
    (g.0, g.1, each_held ps (λ i l. h (suc i) (omega arith)))

-- `watts::watts` meets its contract: `to_bits` tells the float.
use Rattle.std.proofs.Common.{◌≡◌, ℕ, true, sym, ap, ◌∙◌}
use lib.Ieee.{Float, binary64, fits, of_bits, to_bits}
use lib.Ieee.Bits.{of_bits-to_bits}
use Rattle.shares.specs.Watts.{watts_of}
use Rattle.shares.proofs.watts.Floor.{over_bits, low_bits, mid_bits}
use Rattle.shares.proofs.watts.watts.Goals as goal

-- what is said of the float that the bits stand for holds of the float
of-float : (x : Float) (b : ℕ) → fits binary64 x ≡ true → b ≡ to_bits binary64 x → watts_of (of_bits binary64 b) ≡ watts_of x
of-float x b f e = ap (λ (z : ℕ). watts_of (of_bits binary64 z)) e ∙ ap watts_of (of_bits-to_bits binary64 x (rw f tt))

pub returns-then-bits-gt4679240012837945344 : goal.returns-then-bits-gt4679240012837945344
returns-then-bits-gt4679240012837945344 c =
    sym (over_bits _ c.if-bits-gt4679240012837945344.true) ∙ of-float c.args.kw _ c.well_formed.0.1 c.to_bits-bits.ensures

pub returns-then-exponent-lt1012 : goal.returns-then-exponent-lt1012
returns-then-exponent-lt1012 c =
    sym (low_bits _ c.if-bits-gt4679240012837945344.false c.if-exponent-lt1012.true) ∙ of-float c.args.kw _ c.well_formed.0.1 c.to_bits-bits.ensures

pub returns : goal.returns
returns c =
    c.shifted.ensures ∙ sym (mid_bits _ c.if-bits-gt4679240012837945344.false c.if-exponent-lt1012.false) ∙ of-float c.args.kw _ c.well_formed.0.1 c.to_bits-bits.ensures

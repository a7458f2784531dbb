-- `float::same` meets its contract: its bit pattern tells a float.
use Rattle.std.proofs.Common.{◌≡◌, true, sym, ap, ◌∙◌, eqb-true}
use lib.Ieee.{Float, binary64, fits, of_bits, to_bits}
use lib.Ieee.Bits.{of_bits-to_bits}
use Rattle.curve.proofs.float.same.Goals as goal

back : (x : Float) → fits binary64 x ≡ true → of_bits binary64 (to_bits binary64 x) ≡ x
back x h = of_bits-to_bits binary64 x (rw h tt)

pub returns : goal.returns
returns c =
    record { pattern = rw (c.to_bits.ensures, c.to_bits-2.ensures); told = λ same. sym (back c.args.a c.well_formed.0.1) ∙ ap (of_bits binary64) (sym c.to_bits.ensures ∙ eqb-true _ _ same ∙ c.to_bits-2.ensures) ∙ back c.args.b c.well_formed.1.0.1 }

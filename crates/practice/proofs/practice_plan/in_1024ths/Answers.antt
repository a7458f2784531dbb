-- `practice::practice_plan::in_1024ths` meets its contract. Assumes nothing.
use Rattle.std.proofs.Common.{◌≡◌, refl, arith}
use lib.Ieee.{binary64, of_bits}
use Rattle.curve.specs.F64.{ratio}
use Rattle.curve.proofs.float.Whole.{whole_quotient}
use Rattle.practice.proofs.practice_plan.in_1024ths.Goals as goal

divisor : of_bits binary64 4652218415073722368 ≡ ratio 1024 1
unfolding of_bits ratio
divisor = refl

pub returns : goal.returns
returns c = rw (c.nearest_u64_to_f64.ensures, c.from.ensures, divisor) (whole_quotient c.args.n 1024 (omega (arith, c.requires)) (omega arith) (omega arith))

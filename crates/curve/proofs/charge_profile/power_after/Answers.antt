-- `charge_profile::power_after` meets its contract: each arm returns what i picks.
use Rattle.std.proofs.Common.{sym}
use lib.Arith.{lt_of_le-ne}
use lib.Ieee.{of_bits}
use Rattle.curve.specs.F64.{ratio}
use Rattle.curve.proofs.charge_profile.Segments.{power_of_none, power_before, power_past, power_between}
use Rattle.curve.proofs.charge_profile.power_after.Goals as goal

pub returns-then-n-eq0 : goal.returns-then-n-eq0
unfolding of_bits ratio
returns-then-n-eq0 c = sym (power_of_none c.args.curve.now c.args.soc _ c.if-n-eq0.true c.requires)

pub returns-then-i-eq0 : goal.returns-then-i-eq0
returns-then-i-eq0 c = sym (power_before c.args.curve.now c.args.soc _ _ c.if-n-eq0.false c.if-i-eq0.true)

pub returns-then-i-n : goal.returns-then-i-n
returns-then-i-n c = sym (power_past c.args.curve.now c.args.soc _ _ c.if-n-eq0.false c.if-i-n.true)

pub returns : goal.returns
returns c =
    let inside = lt_of_le-ne c.requires c.if-i-n.false in
    rw c.between.ensures (sym (power_between c.args.curve.now c.args.soc _ _ c.if-i-eq0.false inside))

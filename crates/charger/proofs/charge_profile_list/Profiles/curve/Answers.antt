-- `Profiles::curve` meets its contract. A profile past a 32nd of the table starts past its end, whatever its length. Assumes nothing.
use mathlib.Core.Path.{sym, ap}
use Prim.Native.Nat.{ℕ, ◌+◌, ◌*◌, ◌<◌}
use native.Mathlib.Omega.{arith}
use lib.ListN.{length, get_or}
use Rattle.charger.proofs.charge_profile_list.Table.{inside, past, too_short}
use Rattle.charger.proofs.charge_profile_list.Profiles.curve.Goals as goal

pub returns-then-lens-profile : goal.returns-then-lens-profile
returns-then-lens-profile c =
    sym (past c.args.self.points.now c.args.self.lens.now c.args.profile c.if-lens-profile.true)

pub returns-then-points-profile : goal.returns-then-points-profile
returns-then-points-profile c =
    let short : length c.args.self.points.now < 32 * c.args.profile + get_or c.args.self.lens.now c.args.profile 0 = omega arith in
    sym (too_short c.args.self.points.now c.args.self.lens.now c.args.profile c.if-lens-profile.false short)

pub returns-then-points-end : goal.returns-then-points-end
returns-then-points-end c =
    let short : length c.args.self.points.now < 32 * c.args.profile + get_or c.args.self.lens.now c.args.profile 0 = omega (arith, c.from.ensures) in
    sym (too_short c.args.self.points.now c.args.self.lens.now c.args.profile c.if-lens-profile.false short)

pub returns : goal.returns
returns c =
    sym (inside c.args.self.points.now c.args.self.lens.now c.args.profile _ c.if-lens-profile.false (ap (λ (n : ℕ). 32 * c.args.profile + n) c.from.ensures) c.if-points-end.false)

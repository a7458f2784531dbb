use mathlib.Core.Path.{sym, ◌∙◌}
use lib.Ieee.{of_bits}
use Rattle.curve.specs.F64.{ratio}
use Rattle.power.proofs.charger_state.Vacant.{and_left, and_right}
use Rattle.power.proofs.alone.OneCar.{least_first, least_second, scaled_round_lem, plain_round}
use Rattle.power.proofs.alone.round.Goals as goal

pub returns-then-not-scaling : goal.returns-then-not-scaling
unfolding of_bits ratio
returns-then-not-scaling c =
    rw (c.delivered.ensures, c.set_power_cap.ensures)
    (plain_round c.args.limit c.args.power c.args.s.now
    (sym c.by_factor.ensures ∙ and_left _ _ c.if-by_factor-is_charging.true)
    (sym c.is_charging.ensures ∙ and_right _ _ c.if-by_factor-is_charging.true)
    c.args.s.now.rated.0
    (least_second c.args.power.0 c.args.s.now.rated.0 c.if-rated-power.true)
    (rw c.scaling.ensures at c.if-not-scaling.true))

pub returns-then-cap-power : goal.returns-then-cap-power
unfolding of_bits ratio
returns-then-cap-power c =
    rw (c.by_cap.ensures, c.scaling-factor.ensures)
    (scaled_round_lem c.args.limit c.args.power c.args.s.now
    (sym c.by_factor.ensures ∙ and_left _ _ c.if-by_factor-is_charging.true)
    (sym c.is_charging.ensures ∙ and_right _ _ c.if-by_factor-is_charging.true)
    c.args.power.0
    (least_first c.args.power.0 c.args.s.now.rated.0 (sym c.within.ensures ∙ c.if-within.true))
    (rw c.scaling-factor.ensures at c.if-factor.true)
    (rw c.scaling-factor.ensures at c.if-cap-power.true))

pub returns-else-factor : goal.returns-else-factor
unfolding of_bits ratio
returns-else-factor c =
    rw (c.delivered-else-factor.ensures, c.set_power_cap-else-factor.ensures)
    (plain_round c.args.limit c.args.power c.args.s.now
    (sym c.by_factor.ensures ∙ and_left _ _ c.if-by_factor-is_charging.true)
    (sym c.is_charging.ensures ∙ and_right _ _ c.if-by_factor-is_charging.true)
    c.args.power.0
    (least_first c.args.power.0 c.args.s.now.rated.0 (sym c.within.ensures ∙ c.if-within.true))
    (rw c.scaling-factor.ensures at c.if-factor.false))

pub returns : goal.returns
returns c = rw (c.progress.ensures, c.set_power_cap-2.ensures, c.cap_alone-cap.ensures)

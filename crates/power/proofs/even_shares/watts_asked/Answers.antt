use Rattle.power.specs.Power.{watts_asked}
use Rattle.power.proofs.even_shares.watts_asked.Goals as goal

pub returns-then-is_charging : goal.returns-then-is_charging
unfolding watts_asked
returns-then-is_charging c = rw (← c.is_charging.ensures, c.if-is_charging.true, c.watts.ensures, c.draw.ensures)

pub returns : goal.returns
unfolding watts_asked
returns c = rw (← c.is_charging.ensures, c.if-is_charging.false)

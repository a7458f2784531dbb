-- `engine::discrete::stay` meets its contract. Each part is at most a week. Assumes nothing.
use Rattle.std.proofs.Common.{arith}
use Rattle.curve.proofs.float.Ceiling.{ceiling_week}
use Rattle.engine.proofs.discrete.stay.Goals as goal

pub overflow_add-result : goal.overflow_add-result
overflow_add-result c = omega (arith, ceiling_week)

pub returns : goal.returns
returns c =
    omega (arith, ceiling_week c.args.duration.0, ceiling_week c.args.idle.0)

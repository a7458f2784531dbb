use Rattle.std.proofs.Common.{◌∙◌, drop-drop}
use Rattle.recorded.proofs.Record.low_half.Goals as goal

pub returns-clause-left : goal.returns-clause-left
returns-clause-left c = c.u16-high.ensures.left ∙ rw c.u16-low.ensures.left (drop-drop 2 2 c.args.self.now.rest.now)

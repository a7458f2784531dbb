-- `panel::panel::Panel::line` meets its contract. Assumes nothing.
use Rattle.std.proofs.Common.{sym, ◌∙◌}
use Rattle.panel.proofs.panel.Stands.{place_there}
use Rattle.panel.proofs.panel.Panel.line.Goals as goal

pub bounds-self-c : goal.bounds-self-c
bounds-self-c c = place_there c.args.self.now c.args.c (sym c.is_there.ensures ∙ c.if-not-is_there.false)

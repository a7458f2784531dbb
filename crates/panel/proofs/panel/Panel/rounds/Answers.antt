-- `panel::panel::Panel::rounds` meets its contract. Assumes nothing.
use Rattle.files.proofs.call.RunLaws.{rising}
use Rattle.panel.proofs.panel.Stands.{rounds_keep}
use Rattle.panel.proofs.panel.Panel.rounds.Goals as goal

pub invariant_of-rising : goal.invariant_of-rising
invariant_of-rising c = record { rising = rising c.args.self.now.loaded.loaded }

pub returns : goal.returns
returns c =
    let x = c.args.self.now in
    rounds_keep x c.args.count x.loaded.loaded.read c.requires.watches (rw c.from.ensures at c.rounds.ensures.state) c.rounds.ensures.fit

-- `panel::panel::Panel::start` meets its contract. Assumes nothing.
use Rattle.files.proofs.call.RunLaws.{runnable, rising}
use Rattle.panel.proofs.panel.Stands.{starts}
use Rattle.panel.proofs.panel.Panel.start.Goals as goal

pub invariant_of-rising : goal.invariant_of-rising
invariant_of-rising c = record { rising = rising c.args.loaded.loaded }

pub run-requires-clause-plan : goal.run-requires-clause-plan
run-requires-clause-plan c = record { profiles = (runnable c.args.loaded.loaded).profiles }

pub run-requires-clause-times : goal.run-requires-clause-times
run-requires-clause-times c = (runnable c.args.loaded.loaded).times

pub returns-clause-model : goal.returns-clause-model
returns-clause-model c = (starts c.args.loaded c.run.ensures.done).model

pub returns-clause-watches : goal.returns-clause-watches
returns-clause-watches c = (starts c.args.loaded c.run.ensures.done).watches

-- `plan::fields::connectors_ok` meets its contract. Assumes nothing.
use Rattle.plan.specs.Fields.{connectors_ok}
use Rattle.plan.proofs.fields.connectors_ok.Goals as goal

pub returns : goal.returns
unfolding connectors_ok
returns c = cc

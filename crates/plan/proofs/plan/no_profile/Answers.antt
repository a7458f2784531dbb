-- `plan::plan::no_profile` meets its contract. Assumes nothing.
use Rattle.std.proofs.Common.{sym, ap, ◌∙◌, arith}
use Rattle.std.specs.Option.{is_some}
use Rattle.plan.proofs.ids.Laws.{with_id_to}
use Rattle.plan.proofs.plan.Laws.{no_vehicle_lem, vehicle_test, none_test}
use Rattle.plan.proofs.plan.no_profile.Goals as goal

pub returns-then-end-k : goal.returns-then-end-k
returns-then-end-k c =
    let vehicle = c.eq.ensures ∙ vehicle_test c.kind_at-kind.result in
    let none = none_test _ _ c.is_none.result (with_id_to c.plan.inside.bytes.now 1 c.start_of-end.result c.u32_at-id.result (omega arith)) (sym (ap is_some c.with_id.ensures) ∙ c.is_none.ensures) in
    let view = c.plan.view_is in
    cc

pub returns-else-end-k : goal.returns-else-end-k
returns-else-end-k c =
    rw (no_vehicle_lem c.args.plan.now c.args.k (omega arith))

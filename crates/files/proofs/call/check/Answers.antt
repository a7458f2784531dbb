-- `files::call::check` meets its contract. Assumes nothing.
use Rattle.files.proofs.check.PairLaws.{all_sealed}
use Rattle.files.proofs.call.HotDay.{hot_day_if_fine}
use Rattle.files.proofs.call.check.Goals as goal

pub returns : goal.returns
returns c =
    record { answer = c.check_plan.ensures; blocks = all_sealed c.args.plan.now (λ k. (c.type_inv.plan k).fits) c.check_plan.result c.check_plan.ensures; hot_day = hot_day_if_fine c.args.plan.now c.check_plan.result c.check_plan.ensures }

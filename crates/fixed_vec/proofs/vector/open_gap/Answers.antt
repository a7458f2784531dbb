use Rattle.std.proofs.Common.{arith, rules}
use Rattle.std.proofs.lemmas.Bool.{cases_eq}
use Rattle.std.proofs.lemmas.List.{same_lists, places, get_or-set_same}
use Rattle.fixed_vec.proofs.vector.open_gap.Goals as goal

pub returns : goal.returns
returns g c =
    same_lists _ _ (search (rules, places)) (λ k d h. grind (arith, places, get_or-set_same, cases_eq k c.args.index))

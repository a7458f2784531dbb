-- `resume::is_dump` meets its contract.
use Rattle.std.proofs.Common.{List, ℕ, ap, ◌∙◌}
use Rattle.dump.specs.Dump.{starts_with}
use Rattle.dump.proofs.dump.Starts.{same_test, first}
use Rattle.dump.proofs.resume.is_dump.Goals as goal

pub returns : goal.returns
returns c =
    c.starts_with.ensures.value ∙ same_test _ _ ∙ ap (λ (f : List ℕ). starts_with f c.args.dump.now) (first _ _ c.put_dump-n.new.s c.put_dump-n.result c.put_dump-n.ensures.bytes c.put_dump-n.ensures.length)

use Rattle.std.proofs.Common.{rules, List, [], refl, subst}
use Rattle.std.proofs.lemmas.Fn.{fold_over, fronts, slice_gives}
use Rattle.recorded.specs.Replay.{digest_of}
use Rattle.recorded.proofs.Laws.{Digests, digests_more}
use Rattle.recorded.proofs.digest.Goals as goal

pub returns : goal.returns
unfolding digest_of
returns g c =
    let P : List _ → Type 0 = λ xs. Digests g.T.Into.converts xs c.fold.result in
    subst P c.iter.ensures.rest
    (fold_over fronts (λ y. y.now) _ (Digests g.T.Into.converts) _ (λ ys a x b f' j k. (digests_more _ ys a b x.now j (search rules), search rules)) c.iter.result _ _ _ (slice_gives c.iter.result) ([], tt, refl) c.fold.ensures.ran)

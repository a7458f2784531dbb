-- `even::share` meets its contract.
use Rattle.std.proofs.Common.{◌≡◌, sym, ◌∙◌, subst, leb-false, leb-true}
use Rattle.shares.specs.Shares.{shares}
use Rattle.shares.specs.Fair.{Fair}
use Rattle.shares.proofs.even.Laws.{when_fits, when_short, fair}
use Rattle.shares.proofs.even.Levels.{level_is}
use Rattle.shares.proofs.even.share.Goals as goal

pub returns-then-fit : goal.returns-then-fit
returns-then-fit c =
    let e : c.args.watts.now ≡ shares c.args.watts.now c.args.limit
    = sym (when_fits c.args.watts.now c.args.limit (leb-true _ _ (sym c.fit.ensures ∙ c.if-fit.true)))
    in
    record { shared = e; fair = subst (λ s. Fair c.args.watts.now c.args.limit s) (sym e) (fair c.args.watts.now c.args.limit); largest = level_is c.args.watts.now c.args.limit }

pub returns : goal.returns
returns c =
    let e : c.give.new.watts ≡ shares c.args.watts.now c.args.limit
    = rw (when_short _ _ (leb-false _ _ (sym c.fit.ensures ∙ c.if-fit.false)), ← c.level_of-found.ensures.level, ← c.level_of-found.ensures.left) c.give.ensures
    in
    record { shared = e; fair = rw e (fair c.args.watts.now c.args.limit); largest = level_is c.args.watts.now c.args.limit }

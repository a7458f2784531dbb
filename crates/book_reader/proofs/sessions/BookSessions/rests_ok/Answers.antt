use mathlib.Core.Path.{sym, ◌∙◌}
use Prim.Native.Nat.{◌+◌, ◌/◌}
use native.Mathlib.Omega.{arith}
use Rattle.plan.proofs.SearchLaws.{every_again, every-broken, every_end}
use Rattle.book_reader.specs.Reader.{rest_ok}
use Rattle.book_reader.proofs.sessions.BookSessions.rests_ok.Goals as goal

pub returns-then-not-rest_ok : goal.returns-then-not-rest_ok
returns-then-not-rest_ok c =
    sym (every-broken (rest_ok c.args.self.book.now) c.loop-j.j ((c.args.self.count + 4) / 5) (omega arith) (sym c.rest_ok.ensures ∙ c.if-not-rest_ok.true)) ∙ c.loop-j.invariant

pub loop-j-preserved : goal.loop-j-preserved
loop-j-preserved c =
    every_again (rest_ok c.args.self.book.now) c.loop-j.j ((c.args.self.count + 4) / 5) (omega arith) (sym c.rest_ok.ensures ∙ c.if-not-rest_ok.false) c.loop-j.invariant

pub returns : goal.returns
returns c =
    sym (every_end (rest_ok c.args.self.book.now) c.loop-j.j ((c.args.self.count + 4) / 5) (omega arith)) ∙ c.loop-j.invariant

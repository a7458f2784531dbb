use mathlib.Core.Path.{◌≡◌, sym, ◌∙◌}
use native.Mathlib.Omega.{arith}
use Rattle.plan.proofs.SearchLaws.{every_again, every-broken, every_end}
use Rattle.book_reader.specs.Reader.{session_ok}
use Rattle.book_reader.proofs.sessions.BookSessions.sessions_ok.Goals as goal

pub returns-then-not-session_ok : goal.returns-then-not-session_ok
unfolding session_ok
returns-then-not-session_ok c =
    let tested : c.session_ok.result ≡ session_ok c.args.self.book.now c.loop-k.k = rw (c.session_ok.ensures, c.session_in.ensures) in
    sym (every-broken (session_ok c.args.self.book.now) c.loop-k.k c.args.self.count (omega arith) (sym tested ∙ c.if-not-session_ok.true)) ∙ c.loop-k.invariant

pub loop-k-preserved : goal.loop-k-preserved
unfolding session_ok
loop-k-preserved c =
    let tested : c.session_ok.result ≡ session_ok c.args.self.book.now c.loop-k.k = rw (c.session_ok.ensures, c.session_in.ensures) in
    every_again (session_ok c.args.self.book.now) c.loop-k.k c.args.self.count (omega arith) (sym tested ∙ c.if-not-session_ok.false) c.loop-k.invariant

pub returns : goal.returns
returns c =
    sym (every_end (session_ok c.args.self.book.now) c.loop-k.k c.args.self.count (omega arith)) ∙ c.loop-k.invariant

use mathlib.Core.Path.{◌≡◌, sym, ◌∙◌}
use native.Mathlib.Omega.{arith}
use lib.ListN.{length}
use Rattle.plan.specs.Search.{each}
use Rattle.plan.proofs.SearchLaws.{length-each, push_step}
use Rattle.files.proofs.SessionsIn.{session_in, sessions_each}
use Rattle.book_reader.proofs.sessions.BookSessions.read.Goals as goal

pub loop-k-init : goal.loop-k-init
unfolding each
loop-k-init c = c.new-all.ensures

pub push-requires : goal.push-requires
push-requires c =
    let size : length c.loop-k.all.items ≡ c.loop-k.k = rw c.loop-k.invariant (length-each _ 0 c.loop-k.k) in
    omega (arith, c.args.self.room.few)

pub loop-k-preserved : goal.loop-k-preserved
loop-k-preserved c =
    c.push.ensures.items ∙ push_step (session_in c.args.self.book.now) c.loop-k.all.items c.loop-k.k _ c.loop-k.invariant c.session_in.ensures

pub returns : goal.returns
returns c =
    let e : c.loop-k.k ≡ c.args.self.count = omega arith in
    rw e at c.loop-k.invariant ∙ rw c.args.self.room.count (sym (sessions_each c.args.self.book.now))

-- What `resume` promises of every run that it does not refuse, and its answer by the tests in their order. Assumes nothing.
use mathlib.Core.Path.{◌≡◌, refl, sym, ap, ◌∙◌, subst}
use mathlib.Core.Bool.{Bool, true, false, cond}
use mathlib.Core.List.{List, ◌++◌}
use Prim.Native.Nat.{ℕ, ◌+◌, ◌≤◌, ◌<◌}
use native.Mathlib.Omega.{arith}
use native.Mathlib.Nat.{add_assoc}
use borrow.Author.Tests.{lt-ltb, le-ltb, ltb-false}
use lib.Dec.{ltb}
use lib.ListN.{length}
use Rattle.engine.specs.Plan.{Plan}
use Rattle.engine.specs.Discrete as D
use Rattle.engine.specs.Demand.{Stop, stop_at, by_events}
use Rattle.engine.proofs.Demanded.{is_empty_lem}
use Rattle.engine.proofs.discrete.EventLaws.{after_add, stopped, run_handled}
use Rattle.plan.specs.declared.answer.Refusal.{Refusal}
use Rattle.plan.specs.declared.answer.Refusal.TheVariants.{AllowanceAbove, BookUnder, OtherDump}
use Rattle.plan.specs.declared.answer.Totals.{Totals}
use Rattle.files.specs.Read.{read_plan}
use Rattle.files.specs.Check.{check_plan}
use Rattle.files.specs.Book.{written}
use Rattle.files.specs.Call.{totals, if_fine, book_of, book_after}
use Rattle.files.specs.Demand.{OfRun, ReadsBack}
use Rattle.files.proofs.check.PairLaws.{plan_fine}
use Rattle.files.proofs.call.Demanded.{Runs, of_map, of_both, Promises, book_bytes_lem, later_stays, promised}
use Rattle.dump.specs.Dump.{dump_of, handled_in, is_dump}
use Rattle.dump.specs.Call.{continued_to, continued_answer}
use Rattle.dump.specs.Continued.{Unbroken, Reached, InParts, EndedStays, MoreStays}
use Rattle.dump.proofs.dump.Runs.{named, is_own, reached}
use Rattle.dump.proofs.call.Laws.{of_cond, unbroken}
use Rattle.std.specs.Prelude.{Result, Ok, Err}

-- all of them, in the order in which the call promises them
pub record ResumePromises (plan dump : List ℕ) (further : ℕ) (old book : List ℕ) (r : Result Totals Refusal) : Type 0 where
  pub unbroken : Unbroken plan (continued_to dump further) old book r
  pub reached : Reached plan dump further r
  pub parts : InParts plan dump further r
  pub ended : EndedStays plan dump further old book r
  pub more : MoreStays plan dump further old book r
  pub run : Promises plan 0 (continued_to dump further) book r

-- ---- a run by events at its stop goes by its state

same_stop : (p : Plan) (n m : ℕ) → D.run p n ≡ D.run p m → by_events p n ≡ by_events p m
same_stop p n m e = ap (stop_at p) e

-- the events handled at n, and then k more, is n + k
pub in_two : (p : Plan) (n k : ℕ) → D.run p ((D.run p n).handled + k) ≡ D.run p (n + k)
in_two p n k =
    after_add p (D.run p n).handled k (D.start p)
    ∙ ap (D.after p k) (run_handled p n)
    ∙ sym (after_add p n k (D.start p))

-- ---- what is known of a run that was not refused

pub record Resumed (plan dump : List ℕ) (further room : ℕ) (t : Totals) : Type 0 where
  pub runs : Runs plan 0 (continued_to dump further) t
  pub own : is_dump plan dump ≡ true
  pub roomy : 7168 ≤ room

module _ (plan dump : List ℕ) (further room : ℕ) where
  abbrev ran : Totals
  ran = totals (by_events (read_plan plan) (continued_to dump further))

  known : OfRun (Resumed plan dump further room) (continued_answer plan dump further room)
  unfolding continued_answer
  known =
      of_cond (Resumed plan dump further room) (ltb 10000000 further) AllowanceAbove _
      (λ a. of_cond (Resumed plan dump further room) (ltb room 7168) BookUnder _ (λ b. by_plan (ltb-false room 7168 b) (check_plan plan) refl))
    where
      by_dump : 7168 ≤ room → check_plan plan ≡ Ok tt → (own : Bool) → is_dump plan dump ≡ own → OfRun (Resumed plan dump further room) (cond own (Ok ran) (Err OtherDump))
      by_dump h fine true e = record { runs = record { fine = fine; either = omega arith; counts = refl }; own = e; roomy = h }
      by_dump h fine false e = tt

      by_plan : 7168 ≤ room → (a : Result (Unit {0}) Refusal) → check_plan plan ≡ a → OfRun (Resumed plan dump further room) (if_fine a (cond (is_dump plan dump) (Ok ran) (Err OtherDump)))
      by_plan h (Ok u) fine = by_dump h fine (is_dump plan dump) refl
      by_plan h (Err x) fine = tt

  -- ---- the answer, by the tests in their order

  pub further_above : 10000000 < further → Err AllowanceAbove ≡ continued_answer plan dump further room
  unfolding continued_answer
  further_above h = rw (lt-ltb 10000000 further h)

  module _ (a : further ≤ 10000000) where
    pub book_under : room < 7168 → Err BookUnder ≡ continued_answer plan dump further room
    unfolding continued_answer
    book_under h = rw (le-ltb 10000000 further a, lt-ltb room 7168 h)

    module _ (b : 7168 ≤ room) where
      pub by_plan : (x : Result (Unit {0}) Refusal) → check_plan plan ≡ x
          → continued_answer plan dump further room ≡ if_fine x (cond (is_dump plan dump) (Ok ran) (Err OtherDump))
      unfolding continued_answer
      by_plan x h = rw (le-ltb 10000000 further a, le-ltb room 7168 b, h)

    -- of a plan that is fine and a dump that is its own only the book's buffer can be refused
    of_own : check_plan plan ≡ Ok tt → is_dump plan dump ≡ true → continued_answer plan dump further room ≡ cond (ltb room 7168) (Err BookUnder) (Ok ran)
    unfolding continued_answer
    of_own fine own = rw (le-ltb 10000000 further a, fine, own)

-- two continued runs that come to the same stop leave the same book
module _ (plan : List ℕ) (n m : ℕ) (same : by_events (read_plan plan) n ≡ by_events (read_plan plan) m) where
  same_answer : (c : Bool) → cond c (Err BookUnder) (Ok (totals (by_events (read_plan plan) n))) ≡ cond c (Err BookUnder) (Ok (totals (by_events (read_plan plan) m)))
  same_answer c = ap (λ (s : Stop). cond c (Err BookUnder) (Ok (totals s))) same

  same_book : (c : Bool) (book : List ℕ)
      → book_after plan 0 n (cond c (Err BookUnder) (Ok (totals (by_events (read_plan plan) n)))) book ≡ book_after plan 0 m (cond c (Err BookUnder) (Ok (totals (by_events (read_plan plan) m)))) book
  same_book true book = refl
  same_book false book = ap (λ (s : Stop). written (book_of plan 0 s) book) same

-- ---- the promises

module _ (plan dump : List ℕ) (further : ℕ) (r : Result Totals Refusal) (old book : List ℕ) (e : r ≡ continued_answer plan dump further (length old))
    (b : book ≡ book_after plan 0 (continued_to dump further) r old) (back : ReadsBack plan 0 (continued_to dump further) book r) where
  abbrev p : Plan
  p = read_plan plan

  abbrev n : ℕ
  n = continued_to dump further

  facts : OfRun (Resumed plan dump further (length old)) r
  facts = subst (OfRun (Resumed plan dump further (length old))) (sym e) (known plan dump further (length old))

  runs : OfRun (Runs plan 0 n) r
  runs = of_map (λ t k. k.runs) r facts

  in_parts : InParts plan dump further r
  in_parts =
      of_map
      (λ t k more small rest buffer.
      let fine = (plan_fine plan k.runs.fine).0 in
      let second = dump_of plan n ++ rest in
      let i : ℕ = continued_to second more in
      let j : ℕ = continued_to dump (further + more) in
      let at : continued_to second more ≡ (D.run p n).handled + more = ap (λ (h : ℕ). h + more) (named plan fine n rest) in
      let sum : n + more ≡ continued_to dump (further + more) = add_assoc (handled_in dump) further more in
      let stop : by_events p i ≡ by_events p j = same_stop p i j (ap (D.run p) at ∙ in_two p n more ∙ ap (D.run p) sum) in
      let first = of_own plan second more (length buffer) (omega arith) k.runs.fine (is_own plan fine n rest) in
      let whole = of_own plan dump (further + more) (length buffer) small k.runs.fine k.own in (
        first ∙ same_answer plan i j stop (ltb (length buffer) 7168) ∙ sym whole,
        rw (first, whole) (same_book plan i j stop (ltb (length buffer) 7168) buffer),
      ))
      r facts

  ended_stays : EndedStays plan dump further old book r
  ended_stays =
      of_both
      (λ t k w over.
      let stop : by_events p n ≡ by_events p (handled_in dump) = same_stop p n (handled_in dump) (stopped p (handled_in dump) n (omega arith) (is_empty_lem (D.run p (handled_in dump)).site.pending over)) in
      (k.counts ∙ ap totals stop, w ∙ ap (λ (s : Stop). written (book_of plan 0 s) old) stop))
      r runs (book_bytes_lem plan 0 n old book r b)

  more_stays : MoreStays plan dump further old book r
  more_stays =
      of_both
      (λ t k stays more less small buffer room i inside low high.
      let answer = of_own plan dump more (length buffer) small k.runs.fine k.own ∙ ap (λ (c : Bool). cond c (Err BookUnder) (Ok (totals (by_events p (continued_to dump more))))) (le-ltb (length buffer) 7168 room) in
      rw answer (stays (continued_to dump more) (omega arith) buffer i inside low))
      r facts (later_stays plan 0 n r runs old book b back)

  pub resumed : ResumePromises plan dump further old book r
  resumed =
      record {
        unbroken = unbroken plan n old book r runs (of_map (λ t k. k.roomy) r facts) b;
        reached = of_map (λ t k. reached plan (plan_fine plan k.runs.fine).0 dump k.own) r facts;
        parts = in_parts;
        ended = ended_stays;
        more = more_stays;
        run = promised plan 0 n r runs old book b back;
      }

-- What `dump` promises of every run that it does not refuse, and its answer by the tests in their order. Assumes nothing.
use mathlib.Core.Path.{◌≡◌, sym, ap, ◌∙◌, subst}
use mathlib.Core.Bool.{true}
use mathlib.Core.List.{List, ◌++◌}
use Prim.Native.Nat.{ℕ, ◌≤◌, ◌<◌}
use native.Mathlib.Omega.{arith}
use borrow.Author.Tests.{lt-ltb, le-ltb, ltb-false}
use lib.Dec.{ltb}
use lib.ListN.{length, drop}
use Rattle.charger.specs.Lists.{tick}
use Rattle.engine.specs.Discrete.{run}
use Rattle.engine.specs.Demand.{by_events}
use Rattle.plan.specs.declared.answer.Refusal.{Refusal}
use Rattle.plan.specs.declared.answer.Refusal.TheVariants.{EngineAbove, AllowanceAbove, BookUnder, DumpUnder}
use Rattle.plan.specs.declared.answer.Totals.{Totals}
use Rattle.files.specs.Read.{read_plan}
use Rattle.files.specs.Check.{check_plan}
use Rattle.files.specs.BookSession.{book_sessions}
use Rattle.files.specs.SessionBlocks.{slot}
use Rattle.files.specs.Book.{written, session_at, ReadBack}
use Rattle.files.specs.Call.{totals, if_fine, book_of, book_after}
use Rattle.files.specs.Demand.{OfRun, ReadsBack}
use Rattle.files.proofs.check.PairLaws.{plan_fine}
use Rattle.files.proofs.call.Demanded.{Runs, of_map, of_both, if_fine_lem, Promises, book_bytes_lem, promised}
use Rattle.files.proofs.call.BookDemand.{few_sessions, length_said, bytes_at}
use Rattle.dump.specs.Dump.{dump_bytes, dump_of, handled_in, is_dump, session_count as dumped_count, session_at as dumped_at}
use Rattle.dump.specs.Call.{dump_answer, dump_after, continued_answer}
use Rattle.dump.specs.Continued.{Unbroken, FitsBuffer, Determines, BlocksPass, Continues, SessionsOfBook}
use Rattle.dump.proofs.dump.ReadBack.{session_count_lem, session_read}
use Rattle.dump.proofs.dump.Runs.{few_events, fits_buffer, named, is_own, determined}
use Rattle.dump.proofs.dump.Passes.{dump_passes}
use Rattle.dump.proofs.call.Laws.{of_cond, unbroken}
use Rattle.std.specs.Prelude.{Result, Ok, Err}

-- all of them, in the order in which the call promises them
pub record DumpPromises (plan : List ℕ) (n : ℕ) (old book dump : List ℕ) (r : Result Totals Refusal) : Type 0 where
  pub unbroken : Unbroken plan n old book r
  pub fits : FitsBuffer plan n r
  pub determines : Determines plan n r
  pub blocks : BlocksPass plan n dump r
  pub continues : Continues plan n dump r
  pub sessions : SessionsOfBook plan n dump book r
  pub run : Promises plan 0 n book r

module _ (plan : List ℕ) (engine n room space : ℕ) where
  -- ---- the answer, by the tests in their order

  pub engine_some : 0 < engine → Err EngineAbove ≡ dump_answer plan engine n room space
  unfolding dump_answer
  engine_some h = rw (lt-ltb 0 engine h)

  module _ (e : engine ≤ 0) where
    pub allowance_above : 10000000 < n → Err AllowanceAbove ≡ dump_answer plan engine n room space
    unfolding dump_answer
    allowance_above h = rw (le-ltb 0 engine e, lt-ltb 10000000 n h)

    module _ (a : n ≤ 10000000) where
      pub book_under : room < 7168 → Err BookUnder ≡ dump_answer plan engine n room space
      unfolding dump_answer
      book_under h = rw (le-ltb 0 engine e, le-ltb 10000000 n a, lt-ltb room 7168 h)

      module _ (b : 7168 ≤ room) where
        pub dump_under : space < 16384 → Err DumpUnder ≡ dump_answer plan engine n room space
        unfolding dump_answer
        dump_under h = rw (le-ltb 0 engine e, le-ltb 10000000 n a, le-ltb room 7168 b, lt-ltb space 16384 h)

        module _ (d : 16384 ≤ space) where
          pub by_plan : (x : Result (Unit {0}) Refusal) → check_plan plan ≡ x
              → dump_answer plan engine n room space ≡ if_fine x (Ok (totals (by_events (read_plan plan) n)))
          unfolding dump_answer
          by_plan x h = rw (le-ltb 0 engine e, le-ltb 10000000 n a, le-ltb room 7168 b, le-ltb space 16384 d, h)

module _ (plan : List ℕ) (engine n room space : ℕ) where
  -- a run that was not refused has passed the tests
  known_by : (P : Totals → Type 0) → (7168 ≤ room → OfRun P (if_fine (check_plan plan) (Ok (totals (by_events (read_plan plan) n))))) → OfRun P (dump_answer plan engine n room space)
  unfolding dump_answer
  known_by P h =
      of_cond P (ltb 0 engine) EngineAbove _
      (λ a. of_cond P (ltb 10000000 n) AllowanceAbove _ (λ b. of_cond P (ltb room 7168) BookUnder _ (λ c. of_cond P (ltb space 16384) DumpUnder _ (λ d. h (ltb-false room 7168 c)))))

  runs : OfRun (Runs plan 0 n) (dump_answer plan engine n room space)
  runs = known_by (Runs plan 0 n) (λ c. if_fine_lem plan 0 n (omega arith))

  roomy : OfRun (λ t. 7168 ≤ room) (dump_answer plan engine n room space)
  roomy = known_by (λ t. 7168 ≤ room) (λ c. of_map (λ t k. c) (if_fine (check_plan plan) (Ok (totals (by_events (read_plan plan) n)))) (if_fine_lem plan 0 n (omega arith)))

-- the bytes of the dump
dump_bytes_lem : (plan : List ℕ) (n : ℕ) (blank dump : List ℕ) (r : Result Totals Refusal) → dump ≡ dump_after plan n r blank
    → OfRun (λ t. dump ≡ dump_of plan n ++ drop (length (dump_of plan n)) blank) r
unfolding written
dump_bytes_lem plan n blank dump (Err x) h = tt
dump_bytes_lem plan n blank dump (Ok t) h = h

module _ (plan : List ℕ) (engine n : ℕ) (r : Result Totals Refusal) (old book blank dump : List ℕ) (e : r ≡ dump_answer plan engine n (length old) (length blank))
    (b : book ≡ book_after plan 0 n r old) (back : ReadsBack plan 0 n book r) (d : dump ≡ dump_after plan n r blank) where
  known : OfRun (Runs plan 0 n) r
  known = subst (OfRun (Runs plan 0 n)) (sym e) (runs plan engine n (length old) (length blank))

  room : OfRun (λ t. 7168 ≤ length old) r
  room = subst (OfRun (λ t. 7168 ≤ length old)) (sym e) (roomy plan engine n (length old) (length blank))

  passes_all : BlocksPass plan n dump r
  unfolding dump_of
  passes_all = of_map (λ t w k h. rw w (dump_passes plan _ _ k h)) r (dump_bytes_lem plan n blank dump r d)

  -- given back it is accepted, and continues at the count that it names, which is the events used
  continues : Continues plan n dump r
  unfolding continued_answer
  continues =
      of_both
      (λ t k w further left small large.
      let fine = (plan_fine plan k.fine).0 in
      let rest = drop (length (dump_of plan n)) blank in
      let own : is_dump plan dump ≡ true = rw w (is_own plan fine n rest) in
      let used : handled_in dump ≡ t.used = rw w (named plan fine n rest) ∙ sym (ap (λ (x : Totals). x.used) k.counts) in
      rw (le-ltb 10000000 further small, le-ltb left 7168 large, k.fine, own, used))
      r known (dump_bytes_lem plan n blank dump r d)

  -- the bytes of both, and the book read back
  both_written : OfRun (λ t. ((dump ≡ dump_of plan n ++ drop (length (dump_of plan n)) blank) × (book ≡ written (book_of plan 0 (by_events (read_plan plan) n)) old))
      × ReadBack 0 (tick t.ended) t.used (book_sessions plan (by_events (read_plan plan) n).sessions) book) r
  both_written = of_both (λ t w h. (w, h)) r (of_both (λ t w h. (w, h)) r (dump_bytes_lem plan n blank dump r d) (book_bytes_lem plan 0 n old book r b)) back

  sessions_of_book : SessionsOfBook plan n dump book r
  unfolding dump_of book_of
  sessions_of_book =
      of_both
      (λ t k w.
      let s = run (read_plan plan) n in
      let fine = (plan_fine plan k.fine).0 in
      let xs = book_sessions plan s.site.sessions in
      let rest = drop (length (dump_bytes plan s)) blank in
      let events : length s.site.pending < 65536 = omega (arith, few_events plan fine n) in
      let few : length s.site.sessions < 65536 = omega (arith, few_sessions plan 0 n fine) in
      let many : dumped_count dump ≡ length xs = rw w.0.0 (session_count_lem plan s rest events few) ∙ sym (length_said plan s.site.sessions) in (
        many ∙ sym w.1.count,
        λ j h.
            let inside : j < length xs = omega (arith, h, w.1.count) in
            let dumped : dumped_at dump j ≡ slot xs j = rw w.0.0 (session_read plan s rest events j inside) in
            let booked : session_at book j ≡ slot xs j = rw w.0.1 (bytes_at 0 _ _ xs old j inside) in
            dumped ∙ sym booked,
      ))
      r known both_written

  pub dumped : DumpPromises plan n old book dump r
  dumped =
      record {
        unbroken = unbroken plan n old book r known room b;
        fits = of_map (λ t k. fits_buffer plan (plan_fine plan k.fine).0 n) r known;
        determines = of_map (λ t k m same. determined plan (plan_fine plan k.fine).0 n m same) r known;
        blocks = passes_all;
        continues = continues;
        sessions = sessions_of_book;
        run = promised plan 0 n r known old book b back;
      }

-- The dump of a plan's run by events: how long it is, what it tells of the run, and what a dump that is given back tells. Assumes nothing.
use mathlib.Core.Path.{◌≡◌, sym, ap, ◌∙◌}
use mathlib.Core.Bool.{true, false}
use mathlib.Core.List.{List, [], ◌++◌}
use Prim.Native.Nat.{ℕ, ◌+◌, ◌≤◌, ◌<◌}
use native.Mathlib.Omega.{arith}
use lib.ListN.{length}
use Rattle.engine.specs.Discrete.{State, run}
use Rattle.engine.proofs.Demanded.{by_events_lem, event_demand}
use Rattle.engine.proofs.discrete.EventLaws.{run_handled}
use Rattle.plan.specs.Plan.{check_blocks}
use Rattle.plan.proofs.bytes.Laws.{Begins}
use Rattle.files.specs.Read.{read_plan}
use Rattle.files.proofs.call.BookDemand.{few_vehicles, few_sessions, length_said}
use Rattle.dump.specs.Dump.{dump_bytes, dump_of, handled_in, is_dump}
use Rattle.dump.proofs.dump.Laws.{length_dump, handled_back}
use Rattle.dump.proofs.dump.Starts.{starts, starts_with_lem, too_short}
use Rattle.std.specs.Prelude.{Ok}

-- a dump has its header at least
at_least : (plan : List ℕ) (n : ℕ) → 512 ≤ length (dump_of plan n)
unfolding dump_of
at_least plan n = omega (arith, length_dump plan (run (read_plan plan) n))

-- fewer bytes are no dump
pub no_header : (plan b : List ℕ) → length b < 512 → is_dump plan b ≡ false
unfolding is_dump
no_header plan b h = too_short (dump_of plan (handled_in b)) b (omega (arith, at_least plan (handled_in b)))

module _ (plan : List ℕ) (fine : check_blocks plan ≡ Ok tt) where
  abbrev at : ℕ → State
  at n = run (read_plan plan) n

  -- a plan of 64 vehicles has at most 192 events
  pub few_events : (n : ℕ) → (at n).handled + length (at n).site.pending ≤ 192
  few_events n = omega (arith, (by_events_lem (read_plan plan) n).add_up, (event_demand (read_plan plan) n).handled, few_vehicles plan fine)

  -- it never exceeds 16,384 bytes
  pub fits_buffer : (n : ℕ) → length (dump_of plan n) ≤ 16384
  unfolding dump_of
  fits_buffer n = omega (arith, length_dump plan (at n), few_events n, few_sessions plan 0 n fine, length_said plan (at n).site.sessions)

  -- what a dump names is what the run has handled
  pub named : (n : ℕ) (rest : List ℕ) → handled_in (dump_of plan n ++ rest) ≡ (at n).handled
  unfolding dump_of
  named n rest = handled_back plan (at n) rest (omega (arith, few_events n))

  -- the dump at the count that it names
  own_count : (n : ℕ) → dump_of plan (at n).handled ≡ dump_of plan n
  unfolding dump_of
  own_count n = ap (dump_bytes plan) (run_handled (read_plan plan) n)

  -- a dump is one of its plan
  pub is_own : (n : ℕ) (rest : List ℕ) → is_dump plan (dump_of plan n ++ rest) ≡ true
  unfolding is_dump
  is_own n rest = rw (named n rest, own_count n) (starts_with_lem (dump_of plan n) rest)

  -- and determines its run
  pub determined : (n m : ℕ) → dump_of plan m ≡ dump_of plan n → at m ≡ at n
  determined n m e =
      let same : (at m).handled ≡ (at n).handled = sym (named m []) ∙ ap (λ (b : List ℕ). handled_in (b ++ [])) e ∙ named n [] in
      sym (run_handled (read_plan plan) m) ∙ ap at same ∙ run_handled (read_plan plan) n

  -- ---- a dump that is given back, and begins with the dump after the handled count that it names

  module _ (dump : List ℕ) (own : is_dump plan dump ≡ true) where
    -- the plan's run reaches that count
    pub reached : (at (handled_in dump)).handled ≡ handled_in dump
    unfolding is_dump Begins
    reached =
        let b = starts (dump_of plan (handled_in dump)) dump own in
        sym (named (handled_in dump) b.0) ∙ ap handled_in (sym b.1)

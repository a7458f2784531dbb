-- Rules. What the calls `dump` and `continue` answer, and what they leave in their buffers.
use Rattle.std.specs.Prelude.{ℕ, ◌+◌, cond, List, ltb, length, Result, Ok, Err}
use Rattle.engine.specs.Demand.{by_events}
use Rattle.plan.specs.declared.answer.Refusal.TheVariants.{EngineAbove, AllowanceAbove, BookUnder, DumpUnder, OtherDump}
use Rattle.files.specs.Read.{read_plan}
use Rattle.files.specs.Check.{check_plan}
use Rattle.files.specs.Book.{written}
use Rattle.files.specs.Call.{totals, if_fine, book_after}
use Rattle.dump.specs.Dump.{dump_of, handled_in, is_dump}
use Rattle.plan.specs.declared.answer.Refusal.{Refusal}
use Rattle.plan.specs.declared.answer.Totals.{Totals}

-- ---- a run by events that fills a dump buffer beside its book

-- for a book of `room` bytes and a dump buffer of `space`: 1 any engine but 0, 2 allowance above 10,000,000, 3 book under 7,168 bytes,
-- 13 dump buffer under 16,384 bytes, 4 to 12 by the plan
unfoldable pub dump_answer : List ℕ → ℕ → ℕ → ℕ → ℕ → Result Totals Refusal
dump_answer plan engine allowance room space =
    cond (ltb 0 engine) (Err EngineAbove)
    (cond (ltb 10000000 allowance) (Err AllowanceAbove)
    (cond (ltb room 7168) (Err BookUnder)
    (cond (ltb space 16384) (Err DumpUnder)
    (if_fine (check_plan plan) (Ok (totals (by_events (read_plan plan) allowance)))))))

-- a refused call leaves the dump buffer untouched, and the bytes past the dump stay
abbrev pub dump_after : List ℕ → ℕ → Result Totals Refusal → List ℕ → List ℕ
dump_after plan n (Err x) dump = dump
dump_after plan n (Ok t) dump = written (dump_of plan n) dump

-- what the call leaves in the buffers of its book and of its dump
abbrev pub dump_book : List ℕ → ℕ → ℕ → List ℕ → List ℕ → List ℕ
dump_book plan engine allowance book dump = book_after plan 0 allowance (dump_answer plan engine allowance (length book) (length dump)) book

abbrev pub dump_left : List ℕ → ℕ → ℕ → List ℕ → List ℕ → List ℕ
dump_left plan engine allowance book dump = dump_after plan allowance (dump_answer plan engine allowance (length book) (length dump)) dump

-- ---- a run that continues from a dump

-- the n of a continued run: the dump's handled count and its further events
abbrev pub continued_to : List ℕ → ℕ → ℕ
continued_to dump further = handled_in dump + further

-- 2 further above 10,000,000, 3 book under 7,168 bytes, 4 to 12 by the plan, 14 not its dump
unfoldable pub continued_answer : List ℕ → List ℕ → ℕ → ℕ → Result Totals Refusal
continued_answer plan dump further room =
    cond (ltb 10000000 further) (Err AllowanceAbove)
    (cond (ltb room 7168) (Err BookUnder)
    (if_fine (check_plan plan)
    (cond (is_dump plan dump) (Ok (totals (by_events (read_plan plan) (continued_to dump further)))) (Err OtherDump))))

-- what a continued run leaves in a book's buffer: the book of the run at its n
abbrev pub continued_book : List ℕ → List ℕ → ℕ → List ℕ → List ℕ
continued_book plan dump further book =
    book_after plan 0 (continued_to dump further) (continued_answer plan dump further (length book)) book

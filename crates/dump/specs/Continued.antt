-- Rules. Request 1, sentence by sentence: of a dump that was written, and of a run that continued from one.
use Rattle.std.specs.Prelude.{ℕ, ◌+◌, ◌*◌, ◌≤◌, ◌<◌, ◌≡◌, true, List, ◌++◌, length, Result, Ok}
use Rattle.engine.specs.Discrete.{run, ended}
use Rattle.engine.specs.Demand.{by_events}
use Rattle.plan.specs.Blocks.{passes, block}
use Rattle.files.specs.Read.{read_plan}
use Rattle.files.specs.Book.{session_count, outcome_at, session_at, written}
use Rattle.files.specs.Call.{totals, answer_of, book_of, book_left}
use Rattle.files.specs.Demand.{OfRun}
use Rattle.dump.specs.Dump.{dump_of, handled_in, session_count as dumped_count, session_at as dumped_at}
use Rattle.dump.specs.Call.{continued_to, continued_answer, continued_book}
use Rattle.plan.specs.declared.answer.Refusal.{Refusal}
use Rattle.plan.specs.declared.answer.Totals.{Totals}

-- ---- of a run of n events that wrote a dump or continued from one: n is its allowance, or the dump's handled count and the further events

module _ (plan : List ℕ) (n : ℕ) where
  -- the answer and the book are those that `run` gives, the unbroken run of the plan by events
  abbrev pub Unbroken : List ℕ → List ℕ → Result Totals Refusal → Type 0
  Unbroken old book r =
      OfRun (λ t. n ≤ 10000000 → (r ≡ answer_of plan 0 n (length old)) × (book ≡ book_left plan 0 n old)) r

  -- ---- of its dump

  -- it never exceeds 16,384 bytes
  abbrev pub FitsBuffer : Result Totals Refusal → Type 0
  FitsBuffer = OfRun (λ t. length (dump_of plan n) ≤ 16384)

  -- it determines its run: equal dumps of one plan, equal states
  abbrev pub Determines : Result Totals Refusal → Type 0
  Determines = OfRun (λ t. (m : ℕ) → dump_of plan m ≡ dump_of plan n → run (read_plan plan) m ≡ run (read_plan plan) n)

  module _ (dump : List ℕ) where
    -- each of its blocks has the check of its place
    abbrev pub BlocksPass : Result Totals Refusal → Type 0
    BlocksPass = OfRun (λ t. (k : ℕ) → 512 * k < length (dump_of plan n) → passes (k + 1) (block dump k) ≡ true)

    -- given back with its plan, it continues
    abbrev pub Continues : Result Totals Refusal → Type 0
    Continues =
        OfRun
        (λ t. (further room : ℕ) → further ≤ 10000000 → 7168 ≤ room
        → continued_answer plan dump further room ≡ Ok (totals (by_events (read_plan plan) (t.used + further))))

    -- its sessions are the book's, as many and byte for byte, and so they carry the fleet (request 9)
    abbrev pub SessionsOfBook : List ℕ → Result Totals Refusal → Type 0
    SessionsOfBook book = OfRun (λ t. (dumped_count dump ≡ session_count book) × ((k : ℕ) → k < session_count book → dumped_at dump k ≡ session_at book k))

-- ---- of a run that continued from a dump by some further events

module _ (plan dump : List ℕ) (further : ℕ) where
  -- the dump's handled count is one that the plan's run reaches
  abbrev pub Reached : Result Totals Refusal → Type 0
  Reached = OfRun (λ t. (run (read_plan plan) (handled_in dump)).handled ≡ handled_in dump)

  -- continuing by a and then by b is continuing by a + b, in whatever buffers
  abbrev pub InParts : Result Totals Refusal → Type 0
  InParts =
      OfRun
      (λ t. (more : ℕ) → further + more ≤ 10000000 → (rest book : List ℕ)
      → let second = dump_of plan (continued_to dump further) ++ rest in
      (continued_answer plan second more (length book) ≡ continued_answer plan dump (further + more) (length book))
      × (continued_book plan second more book ≡ continued_book plan dump (further + more) book))

  module _ (old book : List ℕ) where
    -- a dump of an ended run continues to the same book
    abbrev pub EndedStays : Result Totals Refusal → Type 0
    EndedStays =
        OfRun
        (λ t. ended (run (read_plan plan) (handled_in dump)) ≡ true
        → (t ≡ totals (by_events (read_plan plan) (handled_in dump))) × (book ≡ written (book_of plan 0 (by_events (read_plan plan) (handled_in dump))) old))

    -- demand 3 of a continued run, also above 10,000,000: under more further events, in whatever buffer, a session of outcome 1 to 3
    -- stands at the same offset, byte for byte
    abbrev pub MoreStays : Result Totals Refusal → Type 0
    MoreStays =
        OfRun
        (λ t. (more : ℕ) → further ≤ more → more ≤ 10000000 → (buffer : List ℕ) → 7168 ≤ length buffer
        → (k : ℕ) → k < session_count book → 1 ≤ outcome_at book k → outcome_at book k ≤ 3
        → let second = continued_book plan dump more buffer in
        (k < session_count second) × (session_at second k ≡ session_at book k))

-- What the reader promises of every book, from its answer. Assumes nothing.
use mathlib.Core.Path.{◌≡◌, refl, sym, ap, ◌∙◌}
use mathlib.Core.Bool.{Bool, true, false, cond, ◌&&◌}
use mathlib.Core.List.{List}
use Prim.Native.Nat.{ℕ, ◌+◌, ◌/◌, ◌<◌}
use native.Mathlib.Omega.{arith}
use borrow.Author.Tests.{not-false}
use lib.ListN.{get_or}
use Rattle.charger.proofs.Lists.{and_true}
use Rattle.plan.specs.Search.{every, holds}
use Rattle.plan.specs.declared.answer.Refusal.{Refusal}
use Rattle.plan.specs.declared.answer.Refusal.TheVariants.{BookDamaged, BookAgainstRules}
use Rattle.plan.specs.Answer.{check_numbers}
use Rattle.files.specs.Book.{session_count, sessions_in}
use Rattle.files.specs.Call.{book_of}
use Rattle.book_reader.specs.Reader.{damaged, header_tests, session_ok, rest_ok, against_rules, test_answer, Contents, contents_of, Reading, refused, contents, if_fine, read_book, reading_numbers}
use Rattle.book_reader.specs.Accepted.{OfWriter, ComesBack, Unique, OfRuns}
use Rattle.book_reader.specs.Code.Read.{Room, header_of, reading}
use Rattle.book_reader.specs.declared.reader.ReadBook.{ReadBook}
use Rattle.book_reader.proofs.reader.Rebuilt.{few, long, rebuilt, by_rules}
use Rattle.book_reader.proofs.reader.Taken.{taken}
use Rattle.book_reader.proofs.reader.OfRuns.{ran_by_rules}
use Rattle.std.specs.Prelude.{Result, Ok, Err}

not_fine : {x : Refusal} → ◌≡◌ {A = Result (Unit {0}) Refusal} (Err x) (Ok tt) → ⊥
not_fine e = let z : ◌≡◌ {A = ℕ} 0 1 = cc in omega arith

-- ---- the answer, test by test

module _ (b : List ℕ) where
  pub by_damage : damaged b ≡ true → test_answer b ≡ Err BookDamaged
  unfolding test_answer
  by_damage d = rw d

  module _ (d : damaged b ≡ false) where
    pub by_header : holds (header_tests b) ≡ false → test_answer b ≡ Err BookAgainstRules
    unfolding test_answer against_rules
    by_header h = rw (d, h)

    module _ (h : holds (header_tests b) ≡ true) where
      -- both tests of the sessions
      abbrev pub both : Bool
      both = every (session_ok b) 0 (session_count b) && every (rest_ok b) 0 ((session_count b + 4) / 5)

      pub by_sessions : both ≡ false → test_answer b ≡ Err BookAgainstRules
      unfolding test_answer against_rules
      by_sessions s = rw (d, h, s)

      pub by_all : both ≡ true → test_answer b ≡ Ok tt
      unfolding test_answer against_rules
      by_all s = rw (d, h, s)

      pub room_there : Room b (session_count b)
      room_there = record { count = refl; few = few b d h; blocks = omega (arith, long b d h) }

  -- a book that is fine
  pub passed : test_answer b ≡ Ok tt → (damaged b ≡ false) × (against_rules b ≡ false)
  unfolding test_answer
  passed = go (damaged b) refl (against_rules b) refl
    where
      go : (d : Bool) → damaged b ≡ d → (a : Bool) → against_rules b ≡ a
          → cond {A = Result (Unit {0}) Refusal} d (Err BookDamaged) (cond a (Err BookAgainstRules) (Ok tt)) ≡ Ok tt → (damaged b ≡ false) × (against_rules b ≡ false)
      go true e a f h = absurd (not_fine h)
      go false e true f h = absurd (not_fine h)
      go false e false f h = (e, f)

  pub fine_room : test_answer b ≡ Ok tt → Room b (session_count b)
  unfolding against_rules
  fine_room e =
      let p = passed e in
      room_there p.0 (and_true _ _ (and_true _ _ (not-false _ p.1)).0).0

  pub fine_read : test_answer b ≡ Ok tt → read_book b ≡ contents (contents_of b)
  unfolding read_book
  fine_read e = rw e

  -- the header and the sessions that were read
  pub read_as : (r : ReadBook) → test_answer b ≡ Ok tt → r.header ≡ header_of b → r.sessions.items ≡ sessions_in b → reading (Ok r) ≡ read_book b
  read_as r f e s = rw (s, e) (sym (fine_read f))

  pub refused_read : (x : Refusal) → test_answer b ≡ Err x → read_book b ≡ refused x
  unfolding read_book
  refused_read x e = rw e

  -- the eleven numbers are those of the answer
  pub same_numbers : check_numbers (test_answer b) ≡ reading_numbers (read_book b)
  unfolding read_book
  same_numbers = go (test_answer b)
    where
      go : (a : Result (Unit {0}) Refusal) → check_numbers a ≡ reading_numbers (if_fine a (contents_of b))
      go (Ok u) = refl
      go (Err x) = refl

-- ---- the sentences of the request

pub record Promises (book : List ℕ) (r : Reading) : Type 0 where
  pub writer : OfWriter book r
  pub comes_back : ComesBack book r
  pub unique : Unique book
  pub runs : OfRuns book r

-- a constructor has one argument
same : {c d : Contents} → contents c ≡ contents d → c ≡ d
same e = cc

module _ (book : List ℕ) (byte : (k : ℕ) → get_or book k 0 < 256) where
  of_writer : OfWriter book (read_book book)
  unfolding read_book
  of_writer = go (test_answer book) refl
    where
      go : (a : Result (Unit {0}) Refusal) → test_answer book ≡ a → OfWriter book (if_fine a (contents_of book))
      go (Ok u) e = let p = passed book e in (by_rules book byte p.0 p.1, rebuilt book byte p.0 p.1)
      go (Err x) e = tt

  comes_back : ComesBack book (read_book book)
  comes_back c w e = ap read_book e ∙ taken c w

  unique : Unique book
  unique c d v w e f = same (sym (taken c v) ∙ ap read_book (sym e ∙ f) ∙ taken d w)

  of_runs : OfRuns book (read_book book)
  unfolding book_of
  of_runs plan engine n t buffer fine either small back e = comes_back _ (ran_by_rules plan engine n fine either small back.whole) e

  pub promised : (r : Reading) → r ≡ read_book book → Promises book r
  promised r e = rw e (record { writer = of_writer; comes_back = comes_back; unique = unique; runs = of_runs })

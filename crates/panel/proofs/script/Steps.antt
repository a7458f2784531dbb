-- One operation of a script: what it does to the time, and what it puts into the output. Assumes nothing.
use Rattle.std.proofs.Common.{◌≡◌, ℕ, zero, suc, ◌+◌, ◌*◌, ◌/◌, ◌<◌, ◌≤◌, List, ◌∷◌, ◌++◌, drop, get_or, set, length, Result, Ok, Err, add-one, drop-cons, ltb, arith, refl}
use lib.Seq.{sets}
use Rattle.charger.proofs.Lists.{by_cond}
use Rattle.engine.specs.Plan.{Plan}
use Rattle.engine.specs.Timestep as T
use Rattle.engine.specs.Timestep.{ended, after}
use Rattle.panel.specs.declared.panel.AccessRefusal.{AccessRefusal}
use Rattle.panel.specs.declared.script.Operation.{Operation}
use Rattle.panel.specs.declared.script.Operation.TheVariants.{Rounds, Read, Write, Line}
use Rattle.panel.specs.Panel.{Panel}
use Rattle.panel.specs.Script.{asked, operation_of, answer_bytes, answer, done, played}
use Rattle.panel.specs.Code.Seen.{Gives}
use Rattle.panel.proofs.panel.Noticed.{rounds_are}

-- an answer that is given is the rules' answer
pub gives_same : (a r : Result ℕ AccessRefusal) → Gives (λ byte. byte) a r → a ≡ r
gives_same a (Ok x) h = h
gives_same a (Err x) h = h

module _ (p : Plan) where
  time_after : (n : ℕ) (s : T.State) → (after p n s).time ≤ s.time + n
  unfolding T.round
  time_after zero s = omega arith
  time_after (suc n) s = by_cond (λ (r : T.State). r.time ≤ s.time + suc n) (ended p s) (omega arith) (omega (arith, time_after n (T.round p s)))

  -- an operation's run goes on by the rounds that it asks for
  pub done_run : (plan : List ℕ) (o : Operation) (s : Panel) → (done plan p o s).run ≡ after p (asked o) s.run
  done_run plan (Rounds n) s = rw rounds_are
  done_run plan (Read a) s = refl
  done_run plan (Write a byte) s = by_cond (λ (r : Panel). r.run ≡ s.run) (ltb (a / 16) (length p.chargers)) refl refl
  done_run plan (Line c) s = refl

  -- and takes no more seconds
  pub done_time : (plan : List ℕ) (o : Operation) (s : Panel) → (done plan p o s).run.time ≤ s.run.time + asked o
  done_time plan o s = rw done_run (time_after (asked o) s.run)

  -- its answer and byte are stored, and the rest is played
  pub step_stored : (plan script out : List ℕ) (s : Panel) (i : ℕ) {pair all : List ℕ} → i < length script
      → pair ≡ answer_bytes (answer plan p (operation_of (get_or script i 0)) s)
      → sets out (2 * i) (played plan p (drop i script) s) ≡ all
      → sets (set (set out (2 * i) (get_or pair 0 0)) (2 * i + 1) (get_or pair 1 0)) (2 * (i + 1)) (played plan p (drop (i + 1) script) (done plan p (operation_of (get_or script i 0)) s)) ≡ all
  step_stored plan script out s i {pair} {all} h e k =
      let more : 2 * (i + 1) ≡ suc (suc (2 * i)) = omega arith in
      let x : ℕ = get_or script i 0 in
      let next : drop i script ≡ x ∷ drop (suc i) script = drop-cons script i 0 h in
      rw (e, more, add-one, add-one) (two (answer plan p (operation_of x) s) (rw next at k))
    where
      two : (a : Result ℕ AccessRefusal) → sets out (2 * i) (answer_bytes a ++ played plan p (drop (suc i) script) (done plan p (operation_of (get_or script i 0)) s)) ≡ all
          → sets (set (set out (2 * i) (get_or (answer_bytes a) 0 0)) (suc (2 * i)) (get_or (answer_bytes a) 1 0)) (suc (suc (2 * i))) (played plan p (drop (suc i) script) (done plan p (operation_of (get_or script i 0)) s)) ≡ all
      two (Ok byte) h = h
      two (Err x) h = h

-- Rules. Request 12: a script of operations, played from a step run's start.
use Rattle.std.specs.Prelude.{ℕ, ◌+◌, ◌^◌, ◌/◌, ◌%◌, List, [], ◌∷◌, ◌++◌, cond, eqb, Result, Ok, Err}
use Rattle.engine.specs.Plan.{Plan}
use Rattle.panel.specs.declared.panel.AccessRefusal.{AccessRefusal}
use Rattle.panel.specs.declared.panel.AccessRefusal.TheVariants.{Outside, ReadOnly}
use Rattle.panel.specs.declared.script.Operation.{Operation}
use Rattle.panel.specs.declared.script.Operation.TheVariants.{Rounds, Read, Write, Line}
use Rattle.panel.specs.Panel.{Panel, rounds, read, write_answer, write, line_answer}

-- bits 0 and 1 are the kind, bits 8 to 15 the byte written, bits 32 to 63 the argument; other bits are not looked at
abbrev pub operation_of : ℕ → Operation
operation_of x =
    let argument = x / 2 ^ 32 in
    let kind = x % 4 in
    cond (eqb kind 0) (Rounds argument) (cond (eqb kind 1) (Read argument) (cond (eqb kind 2) (Write argument (x / 256 % 256)) (Line argument)))

abbrev pub access_number : AccessRefusal → ℕ
access_number Outside = 20
access_number ReadOnly = 21

-- an operation's answer and its byte
abbrev pub answer_bytes : Result ℕ AccessRefusal → List ℕ
answer_bytes (Ok byte) = 0 ∷ byte ∷ []
answer_bytes (Err x) = access_number x ∷ 0 ∷ []

-- how many rounds an operation asks for, and some operations
abbrev pub asked : Operation → ℕ
asked (Rounds n) = n
asked (Read a) = 0
asked (Write a byte) = 0
asked (Line c) = 0

abbrev pub rounds_in : List Operation → ℕ
rounds_in [] = 0
rounds_in (o ∷ os) = asked o + rounds_in os

module _ (plan : List ℕ) (p : Plan) where
  abbrev pub answer : Operation → Panel → Result ℕ AccessRefusal
  answer (Rounds n) s = Ok 0
  answer (Read a) s = read p plan a s
  answer (Write a byte) s = write_answer p a
  answer (Line c) s = line_answer p c s

  abbrev pub done : Operation → Panel → Panel
  done (Rounds n) s = rounds p n s
  done (Read a) s = s
  done (Write a byte) s = write p a byte s
  done (Line c) s = s

  -- what the operations of a script answer, one after the other
  abbrev pub played : List ℕ → Panel → List ℕ
  played [] s = []
  played (x ∷ xs) s = answer_bytes (answer (operation_of x) s) ++ played xs (done (operation_of x) s)

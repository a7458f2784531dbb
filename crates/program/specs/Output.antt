-- Rules. What the program writes for an input: the book's blocks, or a refusal's number and places.
use Rattle.std.specs.Prelude.{ℕ, zero, suc, ◌/◌, cond, List, [], ◌∷◌, ◌++◌, eqb, ltb, get_or, take, drop, Result}
use Rattle.io.specs.Digits.{last_digits}
use Rattle.plan.specs.Bytes.{le_at}
use Rattle.files.specs.Read.{read_plan}
use Rattle.plan.specs.Answer.{numbers}
use Rattle.files.specs.Call.{stop_of, book_of, answer_of}
use Rattle.plan.specs.declared.answer.Refusal.{Refusal}
use Rattle.plan.specs.declared.answer.Totals.{Totals}

-- ---- the input: an engine byte, a 32-bit allowance, then the plan; missing bytes are zero

abbrev pub engine_of : List ℕ → ℕ
engine_of input = le_at 1 input 0

abbrev pub allowance_of : List ℕ → ℕ
allowance_of input = le_at 4 input 1

abbrev pub plan_of : List ℕ → List ℕ
plan_of input = drop 5 input

-- ---- the output

-- how many decimal digits n takes, at most `more` + 1
unfoldable pub places_of : ℕ → ℕ → ℕ
places_of zero n = 1
places_of (suc more) n =
    let rest : ℕ = places_of more (n / 10) in
    cond (ltb n 10) 1 (suc rest)

-- a 64-bit number in decimal
unfoldable pub decimal : ℕ → List ℕ
decimal n = last_digits 10 (places_of 20 n) n

-- a newline behind the last number of a line, a space behind any other
abbrev pub behind : List ℕ → ℕ
behind [] = 10
behind (m ∷ rest) = 32

-- numbers in decimal, with single spaces and a newline
unfoldable pub line : List ℕ → List ℕ
line [] = []
line (n ∷ rest) = (decimal n ++ (behind rest ∷ [])) ++ line rest

-- number 0 is success: the book's blocks are written; any other: the number and both places
unfoldable pub output_of : List ℕ → ℕ → ℕ → Result Totals Refusal → List ℕ
output_of plan engine allowance r =
    cond (eqb (get_or (numbers r) 0 0) 0) (book_of plan engine (stop_of (read_plan plan) engine allowance)) (line (take 3 (numbers r)))

-- what the program writes; its buffer has room for the longest book
unfoldable pub output : List ℕ → List ℕ
output input =
    let plan : List ℕ = plan_of input in
    output_of plan (engine_of input) (allowance_of input) (answer_of plan (engine_of input) (allowance_of input) 7168)
